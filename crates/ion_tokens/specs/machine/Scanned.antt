-- How a scanner stands to the octets that it used and the tokens that it told, and what its calls say of the octets.
use Rattle.std.specs.Prelude.{◌≡◌, ◌≢◌, ◌≤◌, ℕ, ◌+◌, Bool, true, false, List, [], ◌∷◌, ◌++◌, ◌⊎◌, length, take, drop, codes, Option, Some, None, Ok}
use Rattle.std.specs.List.{AllByRecursion}
use Rattle.ion_tokens.specs.Names.Below.{Begun, Form, Place, Reason, Token, TokenKind}
use Rattle.ion_tokens.specs.Blanks.{IsBlank}
use Rattle.ion_tokens.specs.Bodies.{Content, IsBody}
use Rattle.ion_tokens.specs.Lexed.{AllPass, IsNext, Lexes, LexesTo, LooksIn, Placed}
use Rattle.ion_tokens.specs.Lexemes.{Lexeme}
use Rattle.ion_tokens.specs.machine.Scanning.{Known, Next, run}
use Rattle.ion_tokens.specs.machine.Steps.{IsToken, Stepped, deciding, is_end_reason}
use Rattle.ion_tokens.specs.machine.Told.{Stands}

-- what must come next: what was left, until octets since begin with it
abbrev pub IsAhead : List ℕ → List ℕ → List ℕ → Type 0
IsAhead since left ahead = ((since ≡ []) × (ahead ≡ left)) ⊎ ((more : List ℕ) × (since ≡ left ++ more) × (ahead ≡ []))

-- What a scanner knows that used the octets u and told these tokens, and has looked for the next one in this place. The octets ahead
-- must come next: one that ended the last token and was left, or none.
pub record Scanned (p : Place) (s : Known) (u : List ℕ) (ts : List Placed) (ahead : List ℕ) : Type 0 where
  -- what it knew behind the last token, which octets it had used, and which one it had left
  pub behind : Known
  pub front : List ℕ
  pub left : List ℕ
  -- the octets since
  pub since : List ℕ
  pub told : Stands behind front ts left
  pub pass : AllPass ts
  pub ran : run p since behind ≡ Next s
  pub cut : u ≡ front ++ since
  pub next : IsAhead since left ahead

-- octets begin with those ahead
abbrev pub Continues : List ℕ → List ℕ → Type 0
Continues octets ahead = (more : List ℕ) × (octets ≡ ahead ++ more)

-- each of the tokens says something
abbrev pub AllSay : List Placed → Type 0
AllSay ts = AllByRecursion (λ (t : Placed). (c : Content) × IsBody t.lexeme.kind t.lexeme.octets (Ok c)) ts

-- Behind these octets a step over a piece gave a token: it is the next one of each document that has the tokens told before and
-- begins with the octets that decide it, those used and one that was left, however it goes on; and the scanner, for which that one must
-- come next, looks for the next token in any place.
pub record Tells (p : Place) (u piece : List ℕ) (ts : List Placed) (scan : Stepped) (t : Token) (now : Known) : Type 0 where
  pub lexeme : Lexeme
  pub is : IsToken lexeme t
  pub longest : (rest : List ℕ) (others : List Placed) → LooksIn p others
      → Lexes false 0 ((u ++ take (deciding scan.used scan.left) piece) ++ rest) (ts ++ others) → IsNext lexeme others
  pub ahead : List ℕ
  pub left : deciding scan.used scan.left ≡ scan.used + length ahead
  pub again : Continues (drop scan.used piece) ahead
  pub scanned : (q : Place) → Scanned q now (u ++ take scan.used piece) (ts ++ record { place = p; lexeme = lexeme } ∷ []) ahead

-- what a step did that answered with this token, or with none: then the piece is used
abbrev pub GoesWith : Place → List ℕ → List ℕ → List Placed → Stepped → Known → Option Token → Type 0
GoesWith p u piece ts scan now None = Scanned p now (u ++ piece) ts []
GoesWith p u piece ts scan now (Some t) = Tells p u piece ts scan t now

-- what a step did that went from one state of knowledge to the other, behind all octets and tokens told that led to the first
abbrev pub Goes : Place → Known → List ℕ → Stepped → Known → Type 0
Goes p s piece scan now = (u : List ℕ) (ts : List Placed) (ahead : List ℕ) → Scanned p s u ts ahead → Continues piece ahead
    → GoesWith p u piece ts scan now scan.token

-- No document begins with these octets and these tokens and goes on with one that is looked for in this place.
abbrev pub NoDocument : Place → List ℕ → List Placed → Type 0
NoDocument p octets ts = (rest : List ℕ) (others : List Placed) → LooksIn p others → AllSay others → Lexes false 0 (octets ++ rest) (ts ++ others) → ⊥

-- So where a step refused a piece at this offset, with the octets up to it.
abbrev pub RefusesAt : Place → Known → List ℕ → ℕ → Type 0
RefusesAt p s piece offset = (u : List ℕ) (ts : List Placed) (ahead : List ℕ) → Scanned p s u ts ahead → Continues piece ahead
    → NoDocument p (take offset (u ++ piece)) ts

-- at the end the octets are the tokens told, with blanks between, and a last one if one is told
abbrev pub EndsSo : Place → List ℕ → List Placed → Option Token → Type 0
EndsSo p u ts None = Lexes false 0 u ts
EndsSo p u ts (Some t) = (l : Lexeme) × IsToken l t × Lexes false 0 u (ts ++ record { place = p; lexeme = l } ∷ [])

-- the octets are neither the tokens told nor those and one more
abbrev pub NoEnd : Place → List ℕ → List Placed → Type 0
NoEnd p u ts = (others : List Placed) → length others ≤ 1 → LooksIn p others → AllSay others → Lexes false 0 u (ts ++ others) → ⊥

-- the same of an end that answered with this token, or none, or refused for such a reason, behind all octets and tokens told that led to
-- what the scanner knows
abbrev pub EndsWith : Place → Known → Option Token → Type 0
EndsWith p s token = (u : List ℕ) (ts : List Placed) → Scanned p s u ts [] → EndsSo p u ts token

-- whatever led to this, the octets are neither the tokens told nor those and one more
abbrev pub NeverEnds : Place → Known → Type 0
NeverEnds p s = (u : List ℕ) (ts : List Placed) → Scanned p s u ts [] → NoEnd p u ts

-- whatever led to this, the reason is one for which an end refuses
abbrev pub EndsFor : Place → Known → Reason → Type 0
EndsFor p s reason = (u : List ℕ) (ts : List Placed) → Scanned p s u ts [] → is_end_reason reason ≡ true

-- what is known of a token by its octets so far
abbrev pub IsForm : Form → List ℕ → Type 0
IsForm Form.Quote w = (w ≡ codes "'") ⊎ (w ≡ codes "''")
IsForm Form.Long w = (part : List ℕ) × (w ≡ codes "'''" ++ part)
IsForm Form.Other w = (w ≢ codes "'") × (w ≢ codes "''") × ((part : List ℕ) → w ≢ codes "'''" ++ part)

-- From `start` to `end` all octets are part of tokens: the next one begins there and reaches so far; or it is an operator, which leaves
-- letters of `inf` to the word behind it.
abbrev pub Covers : ℕ → ℕ → List Placed → Type 0
Covers start end [] = ⊥
Covers start end (t ∷ ts) = (t.lexeme.start ≡ start) × ((end ≤ t.lexeme.end) ⊎ ((t.lexeme.kind ≡ TokenKind.Operator) × Covers t.lexeme.end end ts))

-- a blank and a first colon, where one may stand
abbrev pub IsFirstColon : Bool → List ℕ → Type 0
IsFirstColon colon octets = (colon ≡ true) × (blank : List ℕ) × IsBlank blank × (octets ≡ blank ++ codes ":")

-- The last octet, a `/`, isn't counted: with another one behind it a comment begins there, and a token ends before it; or no document
-- goes on with the octets, as none does with `1/2/`.
abbrev pub MayComment : Place → List ℕ → List Placed → Begun → Type 0
MayComment p u ts b =
    ((l : Lexeme) × (l.start ≡ b.start) × (l.end ≡ b.end) × Lexes false 0 (u ++ codes "/") (ts ++ record { place = p; lexeme = l } ∷ []))
    ⊎ ((rest : List ℕ) (others : List Placed) → LooksIn p others → Lexes false 0 (u ++ rest) (ts ++ others) → ⊥)

-- In this place, the octets behind the tokens told, which ended at `end`, are a blank and a token that has begun. In each document that
-- has those tokens and goes on with the octets it begins there, and the octets up to `b.end` are part of tokens; those are all, but for a
-- `/` with which a comment may begin.
pub record HasBegun (p : Place) (u : List ℕ) (ts : List Placed) (colon : Bool) (end : ℕ) (octets : List ℕ) (b : Begun) : Type 0 where
  pub blank : List ℕ
  pub token : List ℕ
  pub is_blank : IsBlank blank
  pub cut : octets ≡ blank ++ token
  pub form : IsForm b.form token
  pub start : b.start ≡ end + length blank
  pub reaches : (b.end ≡ end + length octets)
      ⊎ ((b.end + 1 ≡ end + length octets) × (front : List ℕ) × (token ≡ front ++ codes "/") × MayComment p u ts b)
  pub always : (rest : List ℕ) (others : List Placed) → LooksIn p others → Lexes false 0 (u ++ rest) (ts ++ others) → Covers b.start b.end others
  pub no_blank : (rest : List ℕ) → IsBlank (octets ++ rest) → ⊥
  pub no_colon : IsFirstColon colon octets → ⊥

-- In this place, the octets behind the tokens told show no token that has begun, as in the front of a blank or behind one colon, or this one.
abbrev pub BegunSo : Place → List ℕ → List Placed → Bool → ℕ → List ℕ → Option Begun → Type 0
BegunSo p u ts colon end octets None = ((rest : List ℕ) × IsBlank (octets ++ rest)) ⊎ IsFirstColon colon octets
BegunSo p u ts colon end octets (Some b) = HasBegun p u ts colon end octets b

-- the same of the octets that are behind the tokens told
abbrev pub ShowsBegun : Place → List ℕ → List Placed → Option Begun → Type 0
ShowsBegun p u ts begun = (colon : Bool) × (end : ℕ) × (octets : List ℕ) × LexesTo false 0 u ts colon end octets × BegunSo p u ts colon end octets begun

-- so behind all octets and tokens told that led to what the scanner knows
abbrev pub AlwaysShows : Known → Option Begun → Type 0
AlwaysShows s begun = (p : Place) (u : List ℕ) (ts : List Placed) → Scanned p s u ts [] → ShowsBegun p u ts begun
