-- What may stand between tokens (Ion 1.0, "Ion Text Encoding", whitespace and comments).
use Rattle.std.specs.Prelude.{◌≡◌, ℕ, ◌==◌, ◌&&◌, List, [], ◌∷◌, ◌++◌, codes, true, false, ◌⊎◌}
use Rattle.std.specs.List.{flat_map, AllByRecursion}
use Rattle.ion_tokens.specs.Ascii.{asterisk, slash}
use Rattle.ion_tokens.specs.Octets.{is_white, is_line_end}

-- one piece of a blank; a comment's octets are without its delimiters
pub data BlankPiece : Type 0 where
  White : ℕ → BlankPiece
  LineComment : List ℕ → ℕ → BlankPiece
  BlockComment : List ℕ → BlankPiece

-- the octets of a block comment hold no `*/`
abbrev pub HasNoClose : List ℕ → Type 0
HasNoClose [] = Unit {0}
HasNoClose (o ∷ []) = Unit {0}
HasNoClose (o ∷ p ∷ os) = (((o == asterisk) && (p == slash)) ≡ false) × HasNoClose (p ∷ os)

-- none of the octets is LF or CR
abbrev pub HasNoLineEnd : List ℕ → Type 0
HasNoLineEnd octets = AllByRecursion (λ o. is_line_end o ≡ false) octets

-- a white octet; a line comment up to its one line end; a block comment up to its first `*/`
abbrev pub IsBlankPiece : BlankPiece → Type 0
IsBlankPiece (White o) = is_white o ≡ true
IsBlankPiece (LineComment octets last) = HasNoLineEnd octets × (is_line_end last ≡ true)
IsBlankPiece (BlockComment octets) = HasNoClose octets

-- the octets of a piece, with the delimiters of a comment
abbrev pub blank_spelling : BlankPiece → List ℕ
blank_spelling (White o) = o ∷ []
blank_spelling (LineComment octets last) = codes "//" ++ octets ++ last ∷ []
blank_spelling (BlockComment octets) = codes "/*" ++ octets ++ codes "*/"

-- white space and comments
pub record IsBlank (w : List ℕ) : Type 0 where
  pub pieces : List BlankPiece
  pub each : AllByRecursion IsBlankPiece pieces
  pub spelled : w ≡ flat_map blank_spelling pieces

-- a blank, and a line comment that the end of the input ends
pub record IsOpenComment (w : List ℕ) : Type 0 where
  pub front : List ℕ
  pub octets : List ℕ
  pub blank : IsBlank front
  pub one_line : HasNoLineEnd octets
  pub cut : w ≡ front ++ codes "//" ++ octets

-- a blank at the end of the input
abbrev pub IsLastBlank : List ℕ → Type 0
IsLastBlank w = IsBlank w ⊎ IsOpenComment w
