-- What is reached in a document that is read on.
use Rattle.std.specs.Prelude.{◌≡◌, ℕ, List, [], ◌∷◌, ◌++◌, true, IsNone}
use Rattle.ion_streams.specs.Names.{AValue, Catalog, End, GaveEach, Inlet, Items, Limits, PieceReader, Reached, ReadsEach, ToldRefusedEach, Value, format_of, left_of}
use Rattle.ion_streams.specs.declared.piece_reader.Reached.TheVariants.{Refused}

-- so where a value is reached
abbrev pub IfValue : {A : Type 0} → Reached A → Type 0 → Type 0
IfValue (AValue found) P = P
IfValue _ P = Unit {0}

-- so where the end is reached
abbrev pub IfEnd : {A : Type 0} → Reached A → Type 0 → Type 0
IfEnd End P = P
IfEnd _ P = Unit {0}

-- all octets were used, and none is awaited
pub record IsSpent {X : Type 0} (I : Items X) (source : PieceReader X) : Type 0 where
  pub empty : left_of source ≡ []
  pub awaited : IsNone (I.awaits source.items)
  pub counted : I.taken source.items ≡ source.used

-- From first to now the document gave these values and one more, or these up to the end that the device answered, or these before it was refused.
abbrev pub Reaches : {S X : Type 0} → Inlet S → Items X → Catalog → Limits → S → S → PieceReader X → List (Value × ℕ) → Reached Value → Type 0
Reaches R I g l first now source given (AValue found) = ReadsEach R I g l first now source (given ++ (found, source.used) ∷ [])
Reaches R I g l first now source given End = GaveEach R I g l first now source.items (left_of source) true given
Reaches R I g l first now source given (Refused refusal) = ToldRefusedEach R (format_of I g l) first now given refusal
