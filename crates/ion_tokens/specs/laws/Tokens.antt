-- What the scanner's calls have to do with the grammar of tokens.
use Rattle.std.specs.Prelude.{◌≡◌, ℕ, false, List, [], ◌∷◌, ◌++◌, Option, Ok, option_to_list}
use Rattle.ion_tokens.specs.Names.{AreOctets, BeginsLexed, Begun, Continues, IsBody, Known, Lexeme, Lexes, LooksIn, Place, Placed, Places, Scanned, ShowsBegun, Told, trace}

-- The octets used begin with the tokens told, each at its span, with blanks alone between them, however they go on.
abbrev pub TellsRightly : Type 0
TellsRightly = (p : Place) (s : Known) (u : List ℕ) (ts : List Placed) (ahead : List ℕ) → Scanned p s u ts ahead → (rest : List ℕ) → Continues rest ahead
    → BeginsLexed false 0 (u ++ rest) ts

-- None but the tokens told has ended whatever octets follow.
abbrev pub ToldAll : Type 0
ToldAll = (p : Place) (s : Known) (u : List ℕ) (ts : List Placed) → Scanned p s u ts [] → (t : Placed) → t.place ≡ p
    → ((rest : List ℕ) → AreOctets rest → BeginsLexed false 0 (u ++ rest) (ts ++ t ∷ [])) → ⊥

-- Where a document goes on so, one answer alone shows what has begun.
abbrev pub OneBegun : Type 0
OneBegun = (p : Place) (u : List ℕ) (ts : List Placed) (a b : Option Begun) → ShowsBegun p u ts a → ShowsBegun p u ts b
    → (rest : List ℕ) (others : List Placed) → LooksIn p others → Lexes false 0 (u ++ rest) (ts ++ others) → a ≡ b

-- a token says so, with its span
pub record TellsLexeme (l : Lexeme) (x : Told) : Type 0 where
  pub start : x.start ≡ l.start
  pub end : x.end ≡ l.end
  pub says : IsBody l.kind l.octets (Ok x.says)

-- Behind tokens told before, these are told of those tokens, one by one: each is looked for where those before it lead.
abbrev pub AreTold : Places → List Told → List Placed → List Told → Type 0
AreTold places before [] [] = Unit {0}
AreTold places before (t ∷ ts) (x ∷ xs) = (t.place ≡ places before) × TellsLexeme t.lexeme x × AreTold places (before ++ x ∷ []) ts xs
AreTold places before _ _ = ⊥

-- A trace that ends well tells the tokens that the octets are, with blanks between, and what each says; its end tells the last one, where
-- that shows it.
abbrev pub TracesTokens : Type 0
TracesTokens = (places : Places) (u : List ℕ) (last : Option Told) → (trace places u).ends ≡ Ok last
    → (ts : List Placed) × Lexes false 0 u ts × AreTold places [] ts ((trace places u).told ++ option_to_list last)
