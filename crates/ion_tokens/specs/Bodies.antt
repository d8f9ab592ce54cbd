-- What the octets of a token say (Ion 1.0, "Ion Text Encoding").
use Rattle.std.specs.Prelude.{◌≡◌, ℕ, ◌+◌, ◌-◌, ◌*◌, ◌^◌, ◌==◌, ◌&&◌, min, nat_lt, List, [], ◌∷◌, length, if◌then◌else◌, Option, Some, None, Result, Ok, Err, bytes_eq, find, IsUtf8}
use Rattle.std.specs.List.{list_all}
use Rattle.std.specs.Cow.{cow_str_bytes}
use Rattle.ion_tokens.specs.Names.Below.{Body, Kind, Mark, Number, ReadsNumber, Reason, TextKind, TokenKind}
use Rattle.ion_atoms.specs.Kinds.{kind_name}
use Rattle.ion_tokens.specs.Ascii.{digit_0, dollar}
use Rattle.ion_tokens.specs.Octets.{is_digit}

-- what a token says; octets stand for texts
pub data Content : Type 0 where
  Word : List ℕ → Content
  Id : ℕ → Content
  Quoted : List ℕ → Content
  Short : List ℕ → Content
  Long : List ℕ → Content
  Number' : Number → Content
  TypedNull : Kind → Content
  Operator : List ℕ → Content
  Clob : List ℕ → Content
  Blob : List ℕ → Content
  Mark' : Mark → Content

-- what a token in memory says
abbrev pub content : Body → Content
content (Body.Word w) = Word (cow_str_bytes w)
content (Body.Id n) = Id n
content (Body.Quoted t) = Quoted t
content (Body.Short t) = Short t
content (Body.Long t) = Long t
content (Body.Number n) = Number' n
content (Body.TypedNull k) = TypedNull k
content (Body.Operator w) = Operator (cow_str_bytes w)
content (Body.Clob b) = Clob b
content (Body.Blob b) = Blob b
content (Body.Mark m) = Mark' m
content (Body.LetGo TextKind.Short t) = Short t
content (Body.LetGo TextKind.Long t) = Long t
content (Body.LetGo TextKind.Clob t) = Clob t
content (Body.LetGo TextKind.Blob t) = Blob t

-- no octets of it were let go
abbrev pub IsWhole : Body → Type 0
IsWhole (Body.LetGo k t) = ⊥
IsWhole _ = Unit {0}

abbrev pub every_kind : List Kind
every_kind = Kind.Null ∷ Kind.Bool ∷ Kind.Int ∷ Kind.Float ∷ Kind.Decimal ∷ Kind.Timestamp ∷ Kind.Symbol
    ∷ Kind.Str ∷ Kind.Clob ∷ Kind.Blob ∷ Kind.List ∷ Kind.Sexp ∷ Kind.Fields ∷ []

-- the kind of this name
abbrev pub kind_named : List ℕ → Option Kind
kind_named w = find (λ k. bytes_eq (kind_name k) w) every_kind

-- the number that decimal digits make behind a number
abbrev pub number_in : ℕ → List ℕ → ℕ
number_in n [] = n
number_in n (d ∷ ds) = number_in (n * 10 + (d - digit_0)) ds

-- the symbol id that a word is, `$` and digits; 2^64-1 stands for every larger one
abbrev pub id_of : List ℕ → Option ℕ
id_of [] = None
id_of (o ∷ os) = if (o == dollar) && nat_lt 0 (length os) && list_all is_digit os then Some (min (number_in 0 os) (2 ^ 64 - 1)) else None

-- octets that are a text say this, and others aren't UTF-8
abbrev pub Spells : Content → List ℕ → Result Content Reason → Type 0
Spells said octets (Ok c) = (c ≡ said) × IsUtf8 octets
Spells said octets (Err e) = (e ≡ Reason.BadUtf8) × ¬ (IsUtf8 octets)

-- a word, if it is no symbol id
abbrev pub IsWordBody : List ℕ → Option ℕ → Result Content Reason → Type 0
IsWordBody octets None answer = Spells (Word octets) octets answer
IsWordBody octets (Some id) answer = answer ≡ Ok (Id id)

-- a token says a number
abbrev pub SaysNumber : List ℕ → Content → Type 0
SaysNumber octets (Number' n) = ReadsNumber octets (Ok n)
SaysNumber octets _ = ⊥

-- the null of a kind; a name that no kind has is malformed
abbrev pub null_of : Option Kind → Result Content Reason
null_of None = Err Reason.Malformed
null_of (Some k) = Ok (TypedNull k)

-- what the octets of a token of that kind say, or why they say nothing
abbrev pub IsBody : TokenKind → List ℕ → Result Content Reason → Type 0
IsBody TokenKind.Word octets answer = IsWordBody octets (id_of octets) answer
IsBody TokenKind.KindName octets answer = answer ≡ null_of (kind_named octets)
IsBody TokenKind.Number octets (Ok c) = SaysNumber octets c
IsBody TokenKind.Number octets (Err e) = ReadsNumber octets (Err e)
IsBody TokenKind.Operator octets answer = Spells (Operator octets) octets answer
IsBody TokenKind.QuotedSymbol octets answer = Spells (Quoted octets) octets answer
IsBody TokenKind.ShortString octets answer = Spells (Short octets) octets answer
IsBody TokenKind.LongString octets answer = Spells (Long octets) octets answer
IsBody TokenKind.Clob octets answer = answer ≡ Ok (Clob octets)
IsBody TokenKind.Blob octets answer = answer ≡ Ok (Blob octets)
IsBody (TokenKind.Mark m) octets answer = answer ≡ Ok (Mark' m)
