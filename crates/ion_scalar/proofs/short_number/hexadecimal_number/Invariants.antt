use Rattle.std.proofs.Common.{◌-◌, length}
use Rattle.ion_scalar.specs.text.laws.ShortNumbers.{MarkedRun}
use Rattle.ion_scalar.proofs.short_number.hexadecimal_number.Given as goal

abbrev pub invariant-loop-used : goal.invariant-loop-used
invariant-loop-used l = MarkedRun 16 l.octets l.used l.value

abbrev pub decreases-loop-used : goal.decreases-loop-used
decreases-loop-used l = length l.octets - l.used
