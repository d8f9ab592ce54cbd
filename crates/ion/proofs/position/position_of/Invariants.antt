use Rattle.std.proofs.Common.{◌≡◌, ◌⊎◌, ℕ, ◌+◌, ◌≤◌, List, length, false}
use Rattle.ion.specs.Names.{Heard}
use Rattle.ion.specs.Spots.{spot_of}
use Rattle.ion.proofs.position.position_of.Given as goal

-- the octets heard so far are all gone over
abbrev pub invariant-loop-left : goal.invariant-loop-left
invariant-loop-left g l = (octets : List ℕ) × Heard g.R.Inlet l.fn.reader l.reader octets false × (l.spot ≡ spot_of octets)
    × (length octets + l.left ≡ l.offset) × (g.R.Inlet.calls_made l.reader ≤ g.R.Inlet.calls_made l.fn.reader + length octets) × (length l.piece ≡ 4096)
    × ((l.reader ≡ l.fn.reader) ⊎ (g.R.Inlet.has_failed l.reader ≡ false))

abbrev pub decreases-loop-left : goal.decreases-loop-left
decreases-loop-left g l = l.left
