-- What symbols and values feed a hasher: every part of them, values at every depth and as they stand.
use Rattle.std.specs.Prelude.{ℕ, List, [], ◌∷◌, ◌++◌, length, Bool, true, false, Option}
use Rattle.std.specs.Hash as fed
use Rattle.std.specs.Hash.{HashWrites}
use Rattle.ion_model.specs.Names.{Field, Kind, Payload-F, Value, fold-Value, kind_rank}
use Rattle.ion_atoms.specs.Hashed.{decimal_fed, timestamp_fed}

-- whether the text is known, and then the text
abbrev pub symbol_fed : Option (List ℕ) → HashWrites
symbol_fed = fed.option fed.str

-- how many octets there are, and then all of them at once
abbrev pub octets_fed : List ℕ → HashWrites
octets_fed octets = fed.usize (length octets) ++ octets ∷ []

-- the kind of a payload, and whether it is no null
abbrev pub head_fed : Kind → Bool → HashWrites
head_fed k full = fed.u8 (kind_rank k) ++ fed.bool full

module _ {P F V : Type 0} (field : F → HashWrites) (value : V → HashWrites) where
  -- one level: the kind and whether it is no null, and then the scalar, or how many members there are and each of
  -- them, where `field` and `value` say what each feeds
  abbrev pub layer_fed : Payload-F P F V → HashWrites
  layer_fed (Payload-F.Null k) = head_fed k false
  layer_fed (Payload-F.Truth b) = head_fed Kind.Bool true ++ fed.bool b
  layer_fed (Payload-F.Int z) = head_fed Kind.Int true ++ fed.i128 z
  layer_fed (Payload-F.Decimal d) = head_fed Kind.Decimal true ++ decimal_fed d
  layer_fed (Payload-F.Timestamp t) = head_fed Kind.Timestamp true ++ timestamp_fed t
  layer_fed (Payload-F.Symbol s) = head_fed Kind.Symbol true ++ symbol_fed s
  layer_fed (Payload-F.Str s) = head_fed Kind.Str true ++ fed.str s
  layer_fed (Payload-F.Clob s) = head_fed Kind.Clob true ++ octets_fed s
  layer_fed (Payload-F.Blob s) = head_fed Kind.Blob true ++ octets_fed s
  layer_fed (Payload-F.List vs) = head_fed Kind.List true ++ fed.slice value vs
  layer_fed (Payload-F.Sexp vs) = head_fed Kind.Sexp true ++ fed.slice value vs
  layer_fed (Payload-F.Fields fs) = head_fed Kind.Fields true ++ fed.slice field fs

-- of one level, in which each field and each value inside is what it feeds already
abbrev pub hashed_step : Payload-F HashWrites HashWrites HashWrites → HashWrites
hashed_step = layer_fed (λ w. w) (λ w. w)

-- what a value feeds a hasher: how many annotations it has and each of them, and then its payload
unfoldable pub hashed : Value → HashWrites
hashed v =
    fold-Value HashWrites HashWrites HashWrites hashed_step (λ f. symbol_fed f.name ++ f.value) (λ v. fed.slice symbol_fed v.annotations ++ v.payload) v

-- what a field feeds a hasher: its name, and then its value
abbrev pub field_hashed : Field → HashWrites
field_hashed f = symbol_fed f.name ++ hashed f.value
