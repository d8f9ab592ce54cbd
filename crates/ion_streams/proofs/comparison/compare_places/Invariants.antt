use Rattle.std.proofs.Common.{◌+◌}
use Rattle.ion_streams.specs.Names.{work_of}
use Rattle.ion_streams.proofs.SideBySide.{SideBySide}
use Rattle.ion_streams.proofs.comparison.compare_places.Given as goal

abbrev pub invariant-loop-tapes : goal.invariant-loop-tapes
invariant-loop-tapes g l =
    SideBySide g.L.Inlet g.R.Inlet g.I.Items g.J.Items l.fn.left l.fn.right l.fn.left_place l.fn.right_place l.course l.left l.right l.left_place l.right_place

abbrev pub decreases-loop-tapes : goal.decreases-loop-tapes
decreases-loop-tapes g l = work_of g.I.Items l.left_place + work_of g.J.Items l.right_place
