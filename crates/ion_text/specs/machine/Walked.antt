-- What stands at the front of octets: values of one token, and annotations.
use Rattle.std.specs.Prelude.{◌≡◌, ℕ, true, false, List, Option, Ok}
use Rattle.ion_text.specs.Names.Below.{Content, FoundToken, Frame, IsFound, Mark, Payload, Place, Rest, Scalar, Slot, Stage, TokenKind, names_table, past_blank, past_token, resting, said}
use Rattle.ion_model.specs.declared.value.Payload.TheVariants as payloads
use Rattle.ion_text.specs.machine.EachToken.{Symbols, at}
use Rattle.ion_text.specs.machine.FrontTokens.{BeginsValue, IsValue}
use Rattle.ion_text.specs.machine.Run.{State, with_scan}

-- in this place octets begin with this token, which is a value
pub record FoundScalar (p : Place) (r : Rest) (octets : List ℕ) (s : Scalar) : Type 0 where
  pub kept : List ℕ
  pub content : Content
  pub payload : Payload
  pub found : IsFound p r octets s.token.kind kept s.token.count s.token.left
  pub says : said s.token.kind kept ≡ Ok content
  pub is : IsValue s.waits content payload

-- a scanner that rests, and what the reader of tokens holds
abbrev pub rested : Rest → ℕ → List Slot → List Frame → Symbols → Stage → State
rested r start c fs ss now = with_scan (resting r) (at start c fs ss now)

-- the token at the front of octets is an annotation if `::` follows, and names no local symbol tables
pub record FoundNote (octets : List ℕ) (token : FoundToken) : Type 0 where
  pub name : Option (List ℕ)
  pub begins : (p : Place) (r : Rest) → BeginsValue true p r octets token (payloads.Symbol name)
  pub free : names_table name ≡ false

-- where a scanner rests behind an annotation in such a place, a blank of so many octets, and `::`
abbrev pub behind_note : Place → Rest → FoundToken → ℕ → Rest
behind_note p r token blank = past_token p (past_blank (past_token p r token.kind token.count) blank) (TokenKind.Mark Mark.Colons) 2
