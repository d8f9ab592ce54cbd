-- Tokens at the front of octets where a container is open: as values, and as names of fields.
use Rattle.std.specs.Prelude.{◌≡◌, ℕ, ◌==◌, ◌&&◌, ◌||◌, Bool, true, false, not, nat_lt, List, Option, Some, None, IfSome, Ok}
use Rattle.ion_text.specs.Names.Below.{Content, FoundToken, Frame, Held, IsFound, Payload, Place, Quoted, Rest, Short, TypedNull, Word, annotated, said}
use Rattle.ion_spelling.specs.Keywords.{is_keyword}
use Rattle.ion_text.specs.machine.EachToken.{Setting, Spot, Symbols, ended, held_payload, held_word, on_ready}

-- the octet shows that no `::` follows a symbol: it is no blank, and begins no colon and no comment
abbrev pub ends_symbol : ℕ → Bool
ends_symbol o = nat_lt 32 o && not ((o == 58) || (o == 47))

-- what may be an annotation
abbrev pub held_of : Content → Option Held
held_of (Word w) = Some (held_word w)
held_of (Quoted w) = Some (Held.Symbol (Some w))
held_of (TypedNull k) = Some (Held.Null k)
held_of _ = None

-- a word of the form of a version marker
abbrev pub is_marker : Held → Bool
is_marker (Held.Version ours s) = true
is_marker _ = false

-- what is said is none
abbrev pub IsFree : Content → Type 0
IsFree c = IfSome (held_of c) (λ held. is_marker held ≡ false)

-- what is held is this value, unless `::` follows
abbrev pub Pays : Option Held → Payload → Type 0
Pays None payload = ⊥
Pays (Some held) payload = held_payload held ≡ Ok payload

-- what is said is this name of a field; a keyword is none unless it is quoted
abbrev pub Names : Content → Option (List ℕ) → Type 0
Names (Word w) name = (name ≡ Some w) × (is_keyword w ≡ false)
Names (Quoted w) name = name ≡ Some w
Names (Short w) name = name ≡ Some w
Names _ name = ⊥

-- what is said is this value at once
abbrev pub EndsAtOnce : Content → Payload → Type 0
EndsAtOnce c payload = (setting : Setting) (spot : Spot) (fs : List Frame) (ss : Symbols) → on_ready setting spot fs ss c
    ≡ ended setting spot fs (annotated ss payload)

-- what is said is this value; where it waits, unless `::` follows
abbrev pub IsValue : Bool → Content → Payload → Type 0
IsValue true c payload = Pays (held_of c) payload
IsValue false c payload = EndsAtOnce c payload

-- octets begin with this token, which is this value; where it waits, unless `::` follows
pub record BeginsValue (waits : Bool) (p : Place) (r : Rest) (octets : List ℕ) (token : FoundToken) (payload : Payload) : Type 0 where
  pub kept : List ℕ
  pub content : Content
  pub found : IsFound p r octets token.kind kept token.count token.left
  pub says : said token.kind kept ≡ Ok content
  pub is : IsValue waits content payload

-- octets begin with this token, which is this name of a field
pub record BeginsName (p : Place) (r : Rest) (octets : List ℕ) (token : FoundToken) (name : Option (List ℕ)) : Type 0 where
  pub kept : List ℕ
  pub content : Content
  pub found : IsFound p r octets token.kind kept token.count token.left
  pub says : said token.kind kept ≡ Ok content
  pub names : Names content name
