-- What octets do to a reader that holds no values, and what a visitor hears of them.
use Rattle.std.specs.Prelude.{◌≡◌, ◌≢◌, ℕ, List, [], Result, Ok, Err, IsNone}
use Rattle.ion_text.specs.Names.Below.{Catalog, Event, Frame, IsSteady, Limits, Memory, Met, Outcome, Reason, Refusal, Taken, TextWalk, Value, failure, looks, scanned}
use Rattle.ion_text.specs.declared.state.Taken.TheVariants.{Leaves, Tells, Uses}
use Rattle.ion_text.specs.machine.EachToken.{Reading, Symbols}
use Rattle.ion_text.specs.machine.Run.{Effect, State, fails, leaves, on_scan, or_worse, tells, uses}
use Rattle.ion_text.specs.machine.Views.{IsBehind, comes_again, decided, is_left}
use Rattle.ion_text.specs.walk.Holds.{GaveOut, WentOn, state_of}

-- so far the scanner refused nothing
abbrev pub IsFine : TextWalk → Type 0
IsFine r = IsNone (failure r.scanner)

-- what no octet changes
pub record SameReader (old new : TextWalk) : Type 0 where
  pub catalog : new.catalog ≡ old.catalog
  pub limits : new.limits ≡ old.limits
  pub awaited : new.awaited ≡ old.awaited
  pub failed : new.failed ≡ old.failed

-- what the scanner always knows, it knows behind octets too
abbrev pub StaysSteady : TextWalk → TextWalk → Type 0
StaysSteady old new = IsSteady (scanned old.scanner) (looks old.scanner) → IsSteady (scanned new.scanner) (looks new.scanner)

-- how many octets are used, and whether the last one isn't, as came of them at the scanner
abbrev pub IsMet : Outcome → Met → TextWalk → Type 0
IsMet x m new = IsBehind x (scanned new.scanner) × (is_left x ≡ comes_again m)

module _ {V : Type 0} (leads : V → Event → V → Type 0) (es : List Event) where
  -- a method did what an octet does, where so much was told before; unless memory ran out
  abbrev pub DidTake : Effect → Result Taken Reason → TextWalk → V → V → Type 0
  DidTake e (Ok Uses) r a b = (fs : List Frame) × (ss : Symbols) × (e ≡ uses (state_of r fs ss)) × WentOn leads es r fs ss a b
  DidTake e (Ok Tells) r a b = (v : Value) × (e ≡ tells v (state_of r [] [])) × GaveOut leads es r v a b
  DidTake e (Ok Leaves) r a b = (v : Value) × (e ≡ leaves v (state_of r [] [])) × GaveOut leads es r v a b
  DidTake e (Err reason) r a b = reason ≢ Memory → e ≡ fails reason

  -- the same where the octet may come again
  abbrev pub DidMeet : ((State → Effect) → Effect) → Result Met Reason → TextWalk → V → V → Type 0
  DidMeet e (Ok Met.Uses) r a b = (fs : List Frame) × (ss : Symbols) × ((again : State → Effect) → e again ≡ uses (state_of r fs ss))
      × WentOn leads es r fs ss a b
  DidMeet e (Ok Met.Tells) r a b = (v : Value) × ((again : State → Effect) → e again ≡ tells v (state_of r [] [])) × GaveOut leads es r v a b
  DidMeet e (Ok Met.Leaves) r a b = (v : Value) × ((again : State → Effect) → e again ≡ leaves v (state_of r [] [])) × GaveOut leads es r v a b
  DidMeet e (Ok Met.Again) r a b = (fs : List Frame) × (ss : Symbols) × ((again : State → Effect) → e again ≡ again (state_of r fs ss))
      × WentOn leads es r fs ss a b
  DidMeet e (Ok (Met.Late reason)) r a b = (fs : List Frame) × (ss : Symbols)
      × ((again : State → Effect) → e again ≡ or_worse reason (again (state_of r fs ss))) × WentOn leads es r fs ss a b
  DidMeet e (Err reason) r a b = reason ≢ Memory → (again : State → Effect) → e again ≡ fails reason

  -- from what came of octets at the scanner, a method did what comes of them; unless memory ran out
  abbrev pub MeetsWith : Catalog → Limits → Reading → Outcome → Result (ℕ × Met) Refusal → TextWalk → V → V → Type 0
  MeetsWith g l q x (Ok m) r a b = DidMeet (λ again. on_scan g l again q x) (Ok m.1) r a b
  MeetsWith g l q x (Err refusal) r a b = refusal.reason ≢ Memory → (refusal.offset ≡ decided x)
      × ((again : State → Effect) → on_scan g l again q x ≡ fails refusal.reason)
