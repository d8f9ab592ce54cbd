-- What a token says, as a function of its octets.
use Rattle.std.proofs.Common.{◌≡◌, ℕ, List, Bool, Result, Ok, Err, Option, Some, None, refl, if◌then◌else◌}
use Rattle.std.specs.Str.{is_utf8}
use Rattle.std.proofs.lemmas.Str.{IsUtf8-from_is_utf8, is_utf8-from_IsUtf8}
use Rattle.ion_tokens.specs.Names.Below.{Number, ReadsNumber, Reason, TokenKind}
use Rattle.ion_scalar.specs.text.Reading.{number_read, number_reads}
use Rattle.ion_tokens.specs.Bodies.{Blob, Clob, Content, Id, IsBody, IsWordBody, Long, Mark', Number', Operator, Quoted, Short, Spells, Word, id_of, kind_named, null_of}

-- this, if the octets are a text
abbrev pub spelled : Content → List ℕ → Result Content Reason
spelled said octets = if is_utf8 octets then Ok said else Err Reason.BadUtf8

-- a word, if it is no symbol id
abbrev pub word_said : List ℕ → Option ℕ → Result Content Reason
word_said octets None = spelled (Word octets) octets
word_said octets (Some id) = Ok (Id id)

-- what a token says whose octets are read as this number, or as none
abbrev pub number_said : Result Number Reason → Result Content Reason
number_said (Ok n) = Ok (Number' n)
number_said (Err e) = Err e

-- what the octets of a token of that kind say, or why they say nothing
unfoldable pub said : TokenKind → List ℕ → Result Content Reason
said TokenKind.Word octets = word_said octets (id_of octets)
said TokenKind.KindName octets = null_of (kind_named octets)
said TokenKind.Number octets = number_said (number_read octets)
said TokenKind.Operator octets = spelled (Operator octets) octets
said TokenKind.QuotedSymbol octets = spelled (Quoted octets) octets
said TokenKind.ShortString octets = spelled (Short octets) octets
said TokenKind.LongString octets = spelled (Long octets) octets
said TokenKind.Clob octets = Ok (Clob octets)
said TokenKind.Blob octets = Ok (Blob octets)
said (TokenKind.Mark m) octets = Ok (Mark' m)

spells : (c : Content) (octets : List ℕ) → Spells c octets (spelled c octets)
spells c octets = go (is_utf8 octets) refl where
  go : (b : Bool) → is_utf8 octets ≡ b → Spells c octets (if b then Ok c else Err Reason.BadUtf8)
  go Bool.true e = (refl, IsUtf8-from_is_utf8 octets e)
  go Bool.false e = (refl, λ h. let i = is_utf8-from_IsUtf8 octets h in absurd cc)

word_says : (octets : List ℕ) (id : Option ℕ) → IsWordBody octets id (word_said octets id)
word_says octets None = spells (Word octets) octets
word_says octets (Some id) = refl

number_says : (octets : List ℕ) (r : Result Number Reason) → ReadsNumber octets r → IsBody TokenKind.Number octets (number_said r)
number_says octets (Ok n) h = h
number_says octets (Err e) h = h

-- what a token says in the words of IsBody
pub says : (k : TokenKind) (octets : List ℕ) → IsBody k octets (said k octets)
unfolding said
says TokenKind.Word octets = word_says octets (id_of octets)
says TokenKind.Number octets = number_says octets (number_read octets) (number_reads octets)
says TokenKind.Operator octets = spells (Operator octets) octets
says TokenKind.QuotedSymbol octets = spells (Quoted octets) octets
says TokenKind.ShortString octets = spells (Short octets) octets
says TokenKind.LongString octets = spells (Long octets) octets
says _ octets = refl
