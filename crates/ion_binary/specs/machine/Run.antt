-- Whole runs of the machine.
use Rattle.std.specs.Prelude.{ℕ, ◌+◌, List, [], ◌∷◌, Option, Some, None, Result, Ok, Err, Bool, true, false, if◌then◌else◌}
use Rattle.ion_binary.specs.Names.Below.{Catalog, Incomplete, Limits, Phase, Ready, Refusal, Trace, Value}
use Rattle.ion_binary.specs.machine.EachOctet.{Machine, Outcome, feed, gives, goes, initial, refuses, under}
use Rattle.ion_binary.specs.machine.Frames.{Frame}

-- the values with the octets up to where each came, and the machine or the refusal at which the octets end
pub record Run : Type 0 where
  pub given : List (Value × ℕ)
  pub now : Result Machine Refusal

-- a run that gave this value first
abbrev pub with_value : Value → ℕ → Run → Run
with_value v to r = record { given = (v, to) ∷ r.given; now = r.now }

-- an octet was the one up to which there are `to`
abbrev pub run_on : ℕ → (Machine → Run) → Outcome → Run
run_on to rest (goes n) = rest n
run_on to rest (gives v n) = with_value v to (rest n)
run_on to rest (refuses reason) = record { given = []; now = Err (record { offset = to; reason = reason }) }

module _ (g : Catalog) (l : Limits) where
  -- behind `to` octets
  abbrev pub run : ℕ → Machine → List ℕ → Run
  run to m [] = record { given = []; now = Ok m }
  run to m (b ∷ bs) = run_on (to + 1) (λ n. run (to + 1) n bs) (feed (under g l) m b)

-- no piece is open
abbrev pub whole : Phase → List Frame → Bool
whole Ready [] = true
whole _ _ = false

-- what the end answers
abbrev pub at_end : Machine → Result (Option Value) Refusal
at_end m = if whole m.phase m.frames then Ok None else Err (record { offset = m.spot.used; reason = Incomplete })

-- the refusal in which a run ended, if it did
abbrev pub refused_of : Result Machine Refusal → Option Refusal
refused_of (Ok m) = None
refused_of (Err refusal) = Some refusal

-- what the end answers behind a run
abbrev pub ends_of : Result Machine Refusal → Result (Option Value) Refusal
ends_of (Ok m) = at_end m
ends_of (Err refusal) = Err refusal

-- what a run says: the values given, the refusal, and what the end answers
abbrev pub trace_of : Run → Trace
trace_of r = record { given = r.given; refused = refused_of r.now; ends = ends_of r.now }

-- what the machine says of octets from the first one on
abbrev pub trace : Catalog → Limits → List ℕ → Trace
trace g l octets = trace_of (run g l 0 initial octets)
