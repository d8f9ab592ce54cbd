use Rattle.std.proofs.Common.{ℕ, ◌≤◌, ◌-◌, length, drop}
use Rattle.ion_tokens.specs.Names.{IsHexAfter}
use Rattle.ion_tokens.proofs.escapes.number_of.Given as goal

-- the digits left over make of the number what all make of 0
abbrev pub invariant-loop-at : goal.invariant-loop-at
invariant-loop-at l = record {
  within : l.at ≤ length l.digits;
  means : (m : ℕ) → IsHexAfter l.number (drop l.at l.digits) m → IsHexAfter 0 l.digits m;
}

abbrev pub decreases-loop-at : goal.decreases-loop-at
decreases-loop-at l = length l.digits - l.at
