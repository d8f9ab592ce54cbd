-- How two streams compare, as far as they were read.
use Rattle.std.specs.Prelude.{◌≡◌, ℕ, ◌+◌, [], true, false, Option, Some, None}
use Rattle.ion_streams.specs.Names.Below.{Alike, Course, Holds, IsPath, Parted, ReadState, Right, Twin, Value, Verdict, WasTold, events_of, same}
use Rattle.ion_streams.specs.declared.comparison.Verdict.TheVariants.{Different, Equivalent, Refused}

-- so of the values that were the same, where the streams didn't part so far
abbrev pub IfAlike : Course → (ℕ → Type 0) → Type 0
IfAlike (Alike values) P = P values
IfAlike (Parted index path) P = Unit {0}

-- where both streams have another value, this is so of the one, and that of the other
abbrev pub AreHeld : (Value → Type 0) → (Value → Type 0) → Option Value → Option Value → Type 0
AreHeld P Q (Some v) (Some w) = P v × Q w
AreHeld P Q _ _ = Unit {0}

-- the first tape holds the one, and the other was told beside it
abbrev pub AreOnTapes : Twin → Option Value → Option Value → Type 0
AreOnTapes t = AreHeld (Holds t.first) (λ w. WasTold t (events_of w))

-- the course where both streams have another value
abbrev pub MetBoth : ℕ → Value → Value → Course → Type 0
MetBoth n v w (Alike values) = (same v w ≡ true) × (values ≡ n + 1)
MetBoth n v w (Parted index path) = (same v w ≡ false) × (index ≡ n + 1) × IsPath path v w

-- the course behind the next value of each, or the end of one
abbrev pub IsMet : Course → Option Value → Option Value → Course → Type 0
IsMet (Parted index path) v w after = after ≡ Parted index path
IsMet (Alike n) None None after = after ≡ Alike n
IsMet (Alike n) (Some v) (Some w) after = MetBoth n v w after
IsMet (Alike n) _ _ after = after ≡ Parted (n + 1) []

-- how many values were counted
abbrev pub count_of : Course → ℕ
count_of (Alike values) = values
count_of (Parted index path) = index

-- the verdict on two documents
abbrev pub verdict_on : Course → Verdict
verdict_on (Alike values) = Equivalent values
verdict_on (Parted index path) = Different index path

-- the verdict where the left is a document
abbrev pub verdict_of : {Y : Type 0} → ReadState Y → Course → Verdict
verdict_of (ReadState.Refused refusal) course = Refused Right refusal
verdict_of _ course = verdict_on course
