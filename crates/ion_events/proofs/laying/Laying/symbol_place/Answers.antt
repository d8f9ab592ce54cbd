use Rattle.std.proofs.Common.{◌≡◌, Some}
use Rattle.ion_events.proofs.laying.Laying.symbol_place.Goals as goal

pub returns-in-Some-place-clause-shows : goal.returns-in-Some-place-clause-shows
returns-in-Some-place-clause-shows g c = λ place e.
    let is : place ≡ Some c.in-Some-place.place = cc in
    rw c.in-Some.is (c.in-Some-place.place, is, c.place.ensures c.in-Some-place.place c.in-Some-place.is)
