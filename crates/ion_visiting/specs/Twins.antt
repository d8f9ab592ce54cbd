-- A second value that is compared with a first one as it is told.
use Rattle.std.specs.Prelude.{◌≡◌, ◌&&◌, List, [], ◌∷◌, ◌++◌, Bool, true, false, length, nat_eq, not}
use Rattle.ion_visiting.specs.Names.{Event, Led, Tape, Twin}
use Rattle.ion_visiting.specs.Tapes.{IsBlank, events_before, tapes}

-- The second was told these events: those that the first tells up to a place; or, once they parted, they were told to its own tape from nothing.
abbrev pub ToldBy : Bool → Twin → List Event → Type 0
ToldBy false t es = events_before t.first t.at ≡ es
ToldBy true t es = (a : Tape) × IsBlank a × Led tapes es a t.second

abbrev pub WasTold : Twin → List Event → Type 0
WasTold t es = ToldBy t.parted t es

-- the second went along the whole first tape
abbrev pub is_twin : Twin → Bool
is_twin t = not t.parted && nat_eq t.at (length t.first.entries.items)

-- nothing was told of the second
pub record IsBegun (t : Twin) : Type 0 where
  pub at : t.at ≡ 0
  pub along : t.parted ≡ false

-- what was told of the second stands on its own tape
pub record IsApart (a b : Twin) : Type 0 where
  pub first : b.first ≡ a.first
  pub parted : b.parted ≡ true
  pub told : (es : List Event) → WasTold a es → WasTold b es

-- the second is told one event more
pub record TellsSecond (a : Twin) (e : Event) (b : Twin) : Type 0 where
  pub first : b.first ≡ a.first
  pub told : (es : List Event) → WasTold a es → WasTold b (es ++ e ∷ [])
