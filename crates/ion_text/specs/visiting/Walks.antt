-- The tokens at the front of octets, with what they say: values, numbers and annotations.
use Rattle.std.specs.Prelude.{true, ◌≡◌, ◌+◌, ◌<◌, ℕ, List, length, drop, get_or, Some, Ok}
use Rattle.ion_text.specs.Names.Below.{FoundToken, IsFound, IsPassed, Number, Number', Payload, Place, Rest, Scalar, said}
use Rattle.ion_text.specs.declared.tokens.annotations.Annotation.{Annotation}
use Rattle.ion_text.specs.machine.FrontTokens.{IsFree}
use Rattle.ion_text.specs.machine.Walked.{FoundNote, FoundScalar}

-- in this place octets begin with this token, which is this value
pub record FoundPart (p : Place) (r : Rest) (octets : List ℕ) (s : Scalar) (payload : Payload) : Type 0 where
  pub token : FoundScalar p r octets s
  pub is : token.payload ≡ payload

-- in this place octets begin with this token, which is this value unless `::` follows, and no version marker
pub record FoundSymbol (p : Place) (r : Rest) (octets : List ℕ) (s : Scalar) (payload : Payload) : Type 0 where
  pub part : FoundPart p r octets s payload
  pub waits : s.waits ≡ true
  pub free : IsFree part.token.content

-- in this place octets begin with this token, which is this number
pub record FoundNumber (p : Place) (r : Rest) (octets : List ℕ) (token : FoundToken) (number : Number) : Type 0 where
  pub kept : List ℕ
  pub found : IsFound p r octets token.kind kept token.count token.left
  pub says : said token.kind kept ≡ Ok (Number' number)

-- octets begin with an annotation of this text, a blank of so many octets, and `::`
pub record NoteThere (octets : List ℕ) (note : Annotation) : Type 0 where
  pub token : FoundNote octets note.token
  pub is : token.name ≡ Some note.text.now
  pub passed : IsPassed (drop note.token.count octets) note.between
  pub within : note.token.count + note.between + 2 < length octets
  pub one : get_or octets (note.token.count + note.between) 0 ≡ 58
  pub two : get_or octets (note.token.count + note.between + 1) 0 ≡ 58
