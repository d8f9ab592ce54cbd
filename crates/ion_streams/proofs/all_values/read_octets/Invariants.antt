use Rattle.std.proofs.Common.{◌+◌, ◌-◌, ◌*◌, length}
use Rattle.ion_streams.proofs.Wholes.{IsTaken}
use Rattle.ion_streams.proofs.all_values.read_octets.Given as goal

abbrev pub invariant-loop-values : goal.invariant-loop-values
invariant-loop-values g l = IsTaken g.I.Items (g.I.Items.catalog l.fn.items) (g.I.Items.limits l.fn.items) l.octets l.items l.used l.values.items

abbrev pub decreases-loop-values : goal.decreases-loop-values
decreases-loop-values g l = g.I.Items.pending l.items + 2 * (length l.octets - l.used)
