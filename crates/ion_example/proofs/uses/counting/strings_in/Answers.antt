use Rattle.std.proofs.Common.{◌∷◌, arith}
use Rattle.ion_visiting.specs.Events.{stream_events}
use Rattle.ion_example.proofs.Counted.{counted}
use Rattle.ion_example.proofs.uses.counting.strings_in.Goals as goal

pub returns-in-Ok : goal.returns-in-Ok
returns-in-Ok g c =
    let told = rw c.in-Ok.is at c.in_ok-visit.ensures.verdict in
    let count = counted (stream_events told.0) _ c.visit.new.visitor told.3 in
    (told.0, told.1, omega (arith, count))
