-- What the octets of an open token are, in each mode, and what an action says of them.
use Rattle.std.proofs.Common.{◌≡◌, ◌≢◌, ℕ, ◌≤◌, Bool, true, false, List, [], ◌∷◌, ◌++◌}
use Rattle.std.specs.Prelude.{◌==◌, ◌||◌, not, codes, take}
use Rattle.std.specs.List.{flat_map, filter, AllByRecursion}
use Rattle.ion_tokens.specs.Names.{Action, Each, Ending, IsBlobContent, IsClobContent, IsLexeme, IsSegment, IsWord, Lob, Mode, Passes, Place, Segment, Style, TokenKind, Within, begins, begins_number, comment_within, is_base64, is_name, is_operator_octet, is_sexp, is_stop, is_white, is_word_octet, kept_after, segment_spelling}
use Rattle.ion_tokens.specs.Lexemes.{ends}
use Rattle.ion_tokens.proofs.texts.TextsSound.{Reads}

-- an open number, which may hold what no number holds
pub record IsOpenNumber (p : Place) (w : List ℕ) : Type 0 where
  pub place : is_name p ≡ false
  pub begun : begins_number w ≡ true
  pub each : Each (λ o. not (is_stop o)) w

-- a run of operator characters, within which no comment begins, and which doesn't end in a /
pub record IsOpenRun (w : List ℕ) : Type 0 where
  pub some : w ≢ []
  pub each : Each is_operator_octet w
  pub apart : comment_within w [] ≡ false
  pub last : ends (λ o. o == 47) w ≡ false

-- what the ending says of the run, and of the place: outside s-expressions a run is a sign
abbrev pub RunEndsSo : Place → Ending → List ℕ → Type 0
RunEndsSo p Ending.LoneMinus w = w ≡ 45 ∷ []
RunEndsSo p Ending.Minus w = is_sexp p ≡ true
RunEndsSo p Ending.Plus w = ends (λ o. o == 45) w ≡ false
RunEndsSo p Ending.Other w = (is_sexp p ≡ true) × (ends (λ o. o == 45) w ≡ false) × (ends (λ o. (o == 43) || (o == 45)) w ≡ false)

-- a blob's content so far, without its white space
abbrev pub solid : List ℕ → List ℕ
solid os = filter (λ o. not (is_white o)) os

-- white space, or an octet of base64
abbrev pub AnyBlob : ℕ → Bool
AnyBlob o = is_white o || is_base64 o

abbrev pub octets_of : List Segment → List ℕ
octets_of gs = flat_map (λ (g : Segment). g.octets) gs

-- behind {{, white space and segments of a long clob
pub record IsLongFront (w kept : List ℕ) : Type 0 where
  pub before : List ℕ
  pub segments : List Segment
  pub white : Each is_white before
  pub each : AllByRecursion IsSegment segments
  pub spelled : w ≡ before ++ flat_map segment_spelling segments
  pub means : kept ≡ octets_of segments

-- the same, at least one of them
pub record IsLongText (w kept : List ℕ) : Type 0 where
  pub before : List ℕ
  pub segments : List Segment
  pub last : Segment
  pub white : Each is_white before
  pub each : AllByRecursion IsSegment segments
  pub is_last : IsSegment last
  pub spelled : w ≡ before ++ flat_map segment_spelling (segments ++ last ∷ [])
  pub means : kept ≡ octets_of (segments ++ last ∷ [])

-- behind {{, in a lob
abbrev pub InLob : Lob → List ℕ → List ℕ → Type 0
InLob Lob.Start w kept = (kept ≡ []) × Each is_white w
InLob Lob.StartQuote w kept = (kept ≡ []) × (before : List ℕ) × Each is_white before × (w ≡ before ++ 39 ∷ [])
InLob Lob.StartQuotes w kept = (kept ≡ []) × (before : List ℕ) × Each is_white before × (w ≡ before ++ 39 ∷ 39 ∷ [])
InLob Lob.Base64 w kept = Each AnyBlob w × (kept ≡ solid w)
InLob Lob.BlobClose w kept = (content : List ℕ) × IsBlobContent content kept × (w ≡ content ++ 125 ∷ [])
InLob Lob.AfterShort w kept = (before text after : List ℕ) × Each is_white before × Rattle.ion_tokens.specs.Quoted.IsQuoted Style.ShortClob text kept
    × Each is_white after × (w ≡ before ++ (34 ∷ text) ++ 34 ∷ after)
InLob Lob.AfterLong w kept = IsLongText w kept
InLob Lob.AfterQuote w kept = (front : List ℕ) × IsLongText front kept × (w ≡ front ++ 39 ∷ [])
InLob Lob.AfterQuotes w kept = (front : List ℕ) × IsLongText front kept × (w ≡ front ++ 39 ∷ 39 ∷ [])
InLob Lob.ClobClose w kept = (content : List ℕ) × IsClobContent content kept × (w ≡ content ++ 125 ∷ [])

-- in a quoted text
abbrev pub InText : Place → Style → Within → List ℕ → List ℕ → Type 0
InText p Style.ShortString v w kept = (part : List ℕ) × Reads Style.ShortString v part kept × (w ≡ 34 ∷ part)
InText p Style.QuotedSymbol v w kept = (part : List ℕ) × Reads Style.QuotedSymbol v part kept × (w ≡ 39 ∷ part) × (begins (λ o. not (o == 39)) part ≡ true)
InText p Style.LongString v w kept = (part : List ℕ) × Reads Style.LongString v part kept × (w ≡ 39 ∷ 39 ∷ 39 ∷ part)
InText p Style.ShortClob v w kept = (is_name p ≡ false) × (before part : List ℕ) × Each is_white before × Reads Style.ShortClob v part kept
    × (w ≡ 123 ∷ 123 ∷ (before ++ 34 ∷ part))
InText p Style.LongClob v w kept = (is_name p ≡ false) × (front kept' part q : List ℕ) × IsLongFront front kept' × Reads Style.LongClob v part q
    × (w ≡ 123 ∷ 123 ∷ (front ++ 39 ∷ 39 ∷ 39 ∷ part)) × (kept ≡ kept' ++ q)

-- The octets w from a token's first on leave the scanner in this mode, with these kept.
abbrev pub IsOpen : Place → Bool → Mode → List ℕ → List ℕ → Type 0
IsOpen p colon Mode.Colon w kept = (w ≡ 58 ∷ []) × (kept ≡ []) × (colon ≡ true)
IsOpen p colon Mode.Word w kept = (kept ≡ w) × IsWord w
IsOpen p colon Mode.KindName w kept = (w ≡ codes "null." ++ kept) × Each is_word_octet kept
IsOpen p colon Mode.Number w kept = (kept ≡ w) × IsOpenNumber p w
IsOpen p colon Mode.NumberSlash w kept = (w ≡ kept ++ 47 ∷ []) × IsOpenNumber p kept
IsOpen p colon (Mode.Operator e) w kept = (kept ≡ w) × (is_name p ≡ false) × IsOpenRun w × RunEndsSo p e w
IsOpen p colon Mode.OperatorSlash w kept = (w ≡ kept ++ 47 ∷ []) × (is_sexp p ≡ true) × IsOpenRun kept
IsOpen p colon (Mode.Infinity n) w kept = (w ≡ kept ++ take n (codes "inf")) × IsOpenRun kept × (1 ≤ n) × (n ≤ 3)
IsOpen p colon Mode.Quote w kept = (w ≡ 39 ∷ []) × (kept ≡ [])
IsOpen p colon Mode.Quotes w kept = (w ≡ 39 ∷ 39 ∷ []) × (kept ≡ [])
IsOpen p colon (Mode.Text s v) w kept = InText p s v w kept
IsOpen p colon Mode.Brace w kept = (w ≡ 123 ∷ []) × (kept ≡ []) × (is_name p ≡ false)
IsOpen p colon (Mode.Lob l) w kept = (is_name p ≡ false) × (inside : List ℕ) × (w ≡ 123 ∷ 123 ∷ inside) × InLob l inside kept
IsOpen p colon _ w kept = ⊥

-- a token, unless it is refused when it is judged
abbrev pub IsUnjudgedToken : Place → Bool → List ℕ → List ℕ → TokenKind → List ℕ → Type 0
IsUnjudgedToken p colon w r kind kept = Passes kind kept → IsLexeme p colon w r kind kept

-- a token ended before the octet; where a comment ended it, before the / that was taken up
abbrev pub EndsBefore : Place → Bool → List ℕ → ℕ → TokenKind → List ℕ → Mode → Type 0
EndsBefore p colon w o kind kept Mode.Blank = (r : List ℕ) → IsUnjudgedToken p colon w (o ∷ r) kind kept
EndsBefore p colon w o kind kept Mode.Slash = (front : List ℕ) × (w ≡ front ++ 47 ∷ []) × ((r : List ℕ) → IsUnjudgedToken p colon front (47 ∷ o ∷ r) kind kept)
EndsBefore p colon w o kind kept _ = ⊥

-- what an action at an octet says of an open token
abbrev pub Turns : Place → Bool → List ℕ → List ℕ → ℕ → Action → Type 0
Turns p colon w kept o (Action.Go m k) = IsOpen p colon m (w ++ o ∷ []) (kept_after k kept)
Turns p colon w kept o (Action.Give kind k) = (r : List ℕ) → IsUnjudgedToken p colon (w ++ o ∷ []) r kind (kept_after k kept)
Turns p colon w kept o (Action.Before kind k m) = EndsBefore p colon w o kind (kept_after k kept) m
Turns p colon w kept o Action.EndWord = (kept ≡ w) × IsWord w × (is_word_octet o ≡ false)
Turns p colon w kept o (Action.Split n) = (1 ≤ n) × (n ≤ 3) × (front : List ℕ) × (w ≡ front ++ take n (codes "inf"))
    × ((r : List ℕ) → IsLexeme p colon front (take n (codes "inf") ++ o ∷ r) TokenKind.Operator kept)
Turns p colon w kept o Action.EndBlob = (is_name p ≡ false) × (inside : List ℕ) × (w ≡ 123 ∷ 123 ∷ inside) × Each AnyBlob inside × (kept ≡ solid inside)
    × (o ≡ 125)
Turns p colon w kept o (Action.Refuse e) = Unit {0}
