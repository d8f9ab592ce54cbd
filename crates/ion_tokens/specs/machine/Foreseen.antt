-- What an octet shows of a token that may go on, in the words of the grammar.
use Rattle.std.specs.Prelude.{◌≡◌, ◌≢◌, ℕ, ◌+◌, ◌⊎◌, Bool, false, List, [], ◌∷◌, ◌++◌, length, codes, Some, None}
use Rattle.ion_tokens.specs.Names.Below.{Begun, Foresight, Form, Mark, Place, TokenKind}
use Rattle.ion_tokens.specs.Blanks.{IsBlank}
use Rattle.ion_tokens.specs.Lexed.{IsNext, Lexes, LexesTo, LooksIn, Placed}
use Rattle.ion_tokens.specs.Lexemes.{Lexeme}
use Rattle.ion_tokens.specs.machine.Scanned.{Scanned, ShowsBegun}
use Rattle.ion_tokens.specs.machine.Scanning.{Known}

-- in each document that has the tokens told and begins with these octets, the next token is this one
abbrev pub NextIs : Place → List ℕ → List Placed → Lexeme → Type 0
NextIs p u ts l = (rest : List ℕ) (others : List Placed) → LooksIn p others → Lexes false 0 (u ++ rest) (ts ++ others) → IsNext l others

-- the octets behind the tokens told are a blank and `''`
abbrev pub EndsInQuotes : List ℕ → List Placed → Type 0
EndsInQuotes u ts = (colon : Bool) × (end : ℕ) × (blank : List ℕ) × IsBlank blank × LexesTo false 0 u ts colon end (blank ++ codes "''")

-- Behind the octets u and the tokens told, the octet o shows this in a place:
-- that with it the octets are a blank, or a blank and one colon, so that no token has begun;
-- that the next token is `::`, and ends with it;
-- that a quoted symbol or a long string has begun, or a segment of a long string ends with it;
-- that the octets behind the tokens told, a blank and `''`, are the empty symbol, which is the next token and ends before it.
-- Of others nothing is said.
abbrev pub ForeseenSo : Place → List ℕ → List Placed → ℕ → Foresight → Type 0
ForeseenSo p u ts o Foresight.Blank = ShowsBegun p (u ++ o ∷ []) ts None
ForeseenSo p u ts o Foresight.Colons =
    (l : Lexeme) × (l.kind ≡ TokenKind.Mark Mark.Colons) × (l.end ≡ length u + 1) × NextIs p (u ++ o ∷ []) ts l
ForeseenSo p u ts o Foresight.Long =
    ((b : Begun) × (b.form ≢ Form.Other) × ShowsBegun p (u ++ o ∷ []) ts (Some b))
    ⊎ ((l : Lexeme) × (l.kind ≡ TokenKind.LongString) × (l.end ≡ length u + 1) × NextIs p (u ++ o ∷ []) ts l)
ForeseenSo p u ts o Foresight.Empty =
    EndsInQuotes u ts × (l : Lexeme) × (l.kind ≡ TokenKind.QuotedSymbol) × (l.octets ≡ []) × (l.end ≡ length u) × NextIs p (u ++ o ∷ []) ts l
ForeseenSo p u ts o Foresight.Other = Unit {0}

-- so behind all octets and tokens told that led to what the scanner knows
abbrev pub Foresees : Place → Known → ℕ → Foresight → Type 0
Foresees p s o f = (u : List ℕ) (ts : List Placed) → Scanned p s u ts [] → ForeseenSo p u ts o f
