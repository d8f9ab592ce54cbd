-- The tokens of octets: which they are, where, with blanks alone between them.
use Rattle.std.specs.Prelude.{◌≡◌, ℕ, ◌+◌, ◌==◌, Bool, false, List, [], ◌∷◌, ◌++◌, length}
use Rattle.std.specs.List.{list_any, AllByRecursion}
use Rattle.ion_tokens.specs.Names.Below.{Place, TokenKind}
use Rattle.ion_tokens.specs.Ascii.{slash}
use Rattle.ion_tokens.specs.Blanks.{IsBlank, IsLastBlank}
use Rattle.ion_tokens.specs.Lexemes.{IsLexeme, Lexeme, takes_colon}

-- a token and the place that it was looked for in
pub record Placed : Type 0 where
  pub place : Place
  pub lexeme : Lexeme

-- Behind `before` octets, octets begin with a blank and this token, before the rest. The Bool says whether a colon may stand there.
pub record BeginsWith (colon : Bool) (before : ℕ) (octets : List ℕ) (t : Placed) (rest : List ℕ) : Type 0 where
  pub blank : List ℕ
  pub token : List ℕ
  pub is_blank : IsBlank blank
  pub cut : octets ≡ (blank ++ token) ++ rest
  pub start : t.lexeme.start ≡ before + length blank
  pub end : t.lexeme.end ≡ (before + length blank) + length token
  pub is : IsLexeme t.place colon token rest t.lexeme.kind t.lexeme.octets

-- whether a colon may stand behind a token
abbrev pub colon_behind : Placed → Bool
colon_behind t = takes_colon t.place t.lexeme.kind

-- Behind `before` octets, octets begin with these tokens, with blanks between, and go on as `rest` says of what is left: whether a
-- colon may stand there, behind how many octets it stands, and the octets.
abbrev pub LexesBefore : (Bool → ℕ → List ℕ → Type 0) → Bool → ℕ → List ℕ → List Placed → Type 0
LexesBefore rest colon before octets [] = rest colon before octets
LexesBefore rest colon before octets (t ∷ ts) = (others : List ℕ) × BeginsWith colon before octets t others
    × LexesBefore rest (colon_behind t) t.lexeme.end others ts

-- the octets up to the end of the input are these tokens, with blanks between
abbrev pub Lexes : Bool → ℕ → List ℕ → List Placed → Type 0
Lexes = LexesBefore (λ colon before octets. IsLastBlank octets)

-- octets begin with these tokens, whatever is left
abbrev pub BeginsLexed : Bool → ℕ → List ℕ → List Placed → Type 0
BeginsLexed = LexesBefore (λ colon before octets. Unit {0})

-- what is known of a token that isn't refused when it is judged: no number has a `/`
abbrev pub Passes : TokenKind → List ℕ → Type 0
Passes TokenKind.Number kept = list_any (λ o. o == slash) kept ≡ false
Passes _ kept = Unit {0}

-- none of them is refused when it is judged
abbrev pub AllPass : List Placed → Type 0
AllPass ts = AllByRecursion (λ (t : Placed). Passes t.lexeme.kind t.lexeme.octets) ts

-- the first of the tokens, if there is one, is looked for in this place
abbrev pub LooksIn : Place → List Placed → Type 0
LooksIn p [] = Unit {0}
LooksIn p (t ∷ ts) = t.place ≡ p

-- the next of the tokens is this one
abbrev pub IsNext : Lexeme → List Placed → Type 0
IsNext l [] = ⊥
IsNext l (t ∷ ts) = t.lexeme ≡ l

-- Behind `before` octets, octets begin with these tokens, with blanks between; behind them, at `end`, the rest stands, where a colon
-- may or may not come.
abbrev pub LexesTo : Bool → ℕ → List ℕ → List Placed → Bool → ℕ → List ℕ → Type 0
LexesTo colon before octets ts after end rest = LexesBefore (λ c b o. (c ≡ after) × (b ≡ end) × (o ≡ rest)) colon before octets ts
