-- What the values of a document give as an iterator.
use Rattle.std.specs.Prelude.{◌≡◌, ℕ, ◌+◌, ◌*◌, ◌≤◌, List, [], ◌∷◌, ◌++◌, length, Bool, true, false, Option, Some, None, Result, Ok, Err}
use Rattle.ion.specs.Names.{Catalog, Fault, Inlet, Items, Limits, NoReadFailed, ReadState, Stop, Value, reads_of}
use Rattle.ion.specs.Given.{HasGiven, IfAnswered, IsNext, settled}

-- one more item may come where it wasn't stopped
abbrev pub still_one : Bool → ℕ
still_one true = 0
still_one false = 1

-- the answer of `next` that an item tells
abbrev pub answer_in : Option (Result Value Stop) → Result (Option Value) Stop
answer_in None = Ok None
answer_in (Some (Ok value)) = Ok (Some value)
answer_in (Some (Err stop)) = Err stop

-- the values that an item gives: one or none
abbrev pub values_in : Option (Result Value Stop) → List Value
values_in None = []
values_in (Some (Ok value)) = value ∷ []
values_in (Some (Err stop)) = []

-- whether an item tells what stopped it
abbrev pub stops_at : Option (Result Value Stop) → Bool
stops_at None = false
stops_at (Some (Ok value)) = false
stops_at (Some (Err stop)) = true

-- An item tells the answer of `next`. Behind a stop and behind the end nothing comes, and the device isn't asked any more.
pub record EachGives {S X : Type 0} (R : Inlet S) (I : Items X) (before : S) (place : ReadState X) (fault : Option Fault) (stopped : Bool)
    (item : Option (Result Value Stop)) (now : S) (place_now : ReadState X) (fault_now : Option Fault) (stopped_now : Bool) : Type 0 where
  pub fused : stopped ≡ true → (item ≡ None) × (stopped_now ≡ true)
  pub stays : stopped ≡ true → (now ≡ before) × (place_now ≡ place) × (fault_now ≡ fault)
  pub stops : stopped ≡ false → stopped_now ≡ stops_at item
  pub next : stopped ≡ false → (g : Catalog) (l : Limits) (first : S) (s : List Value) → HasGiven R I g l first before place fault s
      → IsNext R I g l first now s (answer_in item)
  pub goes_on : stopped ≡ false → (g : Catalog) (l : Limits) (first : S) (s : List Value) → HasGiven R I g l first before place fault s
      → HasGiven R I g l first now place_now fault_now (s ++ values_in item)
  pub ends : stopped ≡ false → item ≡ None → settled place_now fault_now ≡ Some (Ok None)
  pub ended : stopped ≡ false → settled place fault ≡ Some (Ok None)
      → (item ≡ None) × (now ≡ before) × (place_now ≡ place) × (fault_now ≡ fault)
  pub few_calls : R.calls_made now + reads_of place_now ≤ R.calls_made before + reads_of place
  pub few_octets : length (R.handed now) + 4096 * reads_of place_now ≤ length (R.handed before) + 4096 * reads_of place
  pub no_read_failed : stopped ≡ false → IfAnswered (answer_in item) (NoReadFailed R before now)
