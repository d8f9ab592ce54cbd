-- The trace of octets that are tokens.
use Rattle.std.specs.Prelude.{◌≡◌, ◌⊎◌, ℕ, false, List, [], ◌∷◌, ◌++◌, length, Option, Ok, Err, option_to_list}
use Rattle.ion_tokens.specs.Names.{AllSay, Incomplete, Lexes, Placed, Places, TokenKind, Told, trace}
use Rattle.ion_tokens.specs.laws.Tokens.{AreTold, TellsLexeme}

-- Behind tokens told before, each of these tokens is looked for where those before it lead, whatever the totals at which they come.
abbrev pub AreSought : Places → List Told → List Placed → Type 0
AreSought places before [] = Unit {0}
AreSought places before (t ∷ ts) = (t.place ≡ places before) × ((x : Told) → TellsLexeme t.lexeme x → AreSought places (before ++ x ∷ []) ts)

-- The last of the tokens is a word directly behind an operator, as in `+in`, which an `f` would make a float.
pub record EndsInOperand (ts : List Placed) : Type 0 where
  pub front : List Placed
  pub operator : Placed
  pub word : Placed
  pub are : ts ≡ front ++ operator ∷ word ∷ []
  pub is_operator : operator.lexeme.kind ≡ TokenKind.Operator
  pub is_word : word.lexeme.kind ≡ TokenKind.Word
  pub directly : word.lexeme.start ≡ operator.lexeme.end

-- Octets that are tokens which say something, with blanks between, and each of which is looked for where those before it lead: their
-- trace ends well and tells just these, the last by its end where that shows it. Or they end in a word directly behind an operator; then
-- the trace may tell just those before, and its end lacks octets, since s-expressions don't end there.
abbrev pub TokensTraced : Type 0
TokensTraced = (places : Places) (u : List ℕ) (ts : List Placed) → Lexes false 0 u ts → AllSay ts → AreSought places [] ts
    → ((last : Option Told) × ((trace places u).ends ≡ Ok last) × AreTold places [] ts ((trace places u).told ++ option_to_list last))
    ⊎ ((e : EndsInOperand ts) × ((trace places u).ends ≡ Err (record { offset = length u; reason = Incomplete }))
    × AreTold places [] e.front (trace places u).told)
