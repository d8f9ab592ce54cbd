use Rattle.std.proofs.Common.{◌≡◌, true, is_some}
use Rattle.ion_streams.proofs.Taping.{met_alike, met_parted}
use Rattle.ion_streams.proofs.comparison.Course.meet.Goals as goal

pub returns-in-None-clause-met : goal.returns-in-None-clause-met
returns-in-None-clause-met c = λ v w a b.
    let gave = c.in-true-true in
    let left : is_some v ≡ true = cc in
    let right : is_some w ≡ true = cc in
    rw c.in-Alike.is (met_alike c.in-Alike.values c.args.tapes.now (rw c.in-None.is at c.in_ok-parting_on-in-true-true.ensures) v w left right)

pub returns-in-Some-clause-met : goal.returns-in-Some-clause-met
returns-in-Some-clause-met c = λ v w a b.
    let gave = c.in-true-true in
    let left : is_some v ≡ true = cc in
    let right : is_some w ≡ true = cc in
    rw (c.in-Alike.is, c.part.ensures)
    (met_parted c.in-Alike.values c.args.tapes.now c.in-Some.path (rw c.in-Some.is at c.in_ok-parting_on-in-true-true.ensures) v w left right)
