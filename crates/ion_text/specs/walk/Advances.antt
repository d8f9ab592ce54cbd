-- Walks over pieces by a reader that holds no values, and what a visitor hears of them.
use Rattle.std.specs.Prelude.{◌≡◌, ◌≢◌, ◌-◌, ℕ, Bool, true, false, List, [], Some, None, Result, Ok, Err}
use Rattle.ion_text.specs.Names.{Advances, Catalog, Event, Frame, GaveOut, Limits, Memory, Reason, Refusal, State, Symbols, Taken, TextWalk, Value, Walked, WentOn, resumed, scanned, state_of}

module _ {V : Type 0} (takes : V → Event → V → Type 0) (es : List Event) (g : Catalog) (l : Limits) (again : Bool) (to : ℕ) (m : State) (piece : List ℕ) where
  -- So many octets of a piece are used as a run from here says, and the reader stands where that leads. Where they end a value a visitor
  -- that had heard of these events heard of the value's; else of those of what is open.
  abbrev pub AdvancesBy : ℕ → Bool → TextWalk → V → V → Type 0
  AdvancesBy used false r a b = (fs : List Frame) × (ss : Symbols)
      × Advances g l again to m piece (Ok (record { used = used; value = None })) r.awaited (state_of r fs ss) × WentOn takes es r fs ss a b
  AdvancesBy used true r a b = (v : Value)
      × Advances g l again to m piece (Ok (record { used = used; value = Some v })) r.awaited (state_of r [] []) × GaveOut takes es r v a b

  -- Over a piece a walk answered what a run from here says, unless memory ran out.
  abbrev pub DidAdvance : Result Walked Refusal → TextWalk → V → V → Type 0
  DidAdvance (Ok walked) r a b = AdvancesBy walked.used walked.ended r a b
  DidAdvance (Err refusal) r a b = refusal.reason ≢ Memory → resumed g l again to m piece ≡ record { given = []; now = Err refusal }

-- how many octets the scanner has moved
abbrev pub gone : TextWalk → TextWalk → ℕ
gone old new = (scanned new.scanner).used - (scanned old.scanner).used

-- what octets did, and how many of them are used
abbrev pub with_count : ℕ → Result Taken Refusal → Result (ℕ × Taken) Refusal
with_count count (Ok taken) = Ok (count, taken)
with_count count (Err refusal) = Err refusal

-- what octets did, with the offset of a refusal told apart
abbrev pub with_offset : ℕ → Result Taken Reason → Result Taken Refusal
with_offset offset (Ok taken) = Ok taken
with_offset offset (Err reason) = Err (record { offset = offset; reason = reason })

-- what no walk changes
pub record SameSettings (old new : TextWalk) : Type 0 where
  pub catalog : new.catalog ≡ old.catalog
  pub limits : new.limits ≡ old.limits
  pub failed : new.failed ≡ old.failed
