use Rattle.std.proofs.Common.{refl, arith, FitsSigned, w16}
use Rattle.std.proofs.lemmas.Int.{to_z-of_z}
use Rattle.jiff.proofs.SpanFacts.{signed_arith}
use Rattle.ion_atoms.specs.laws.Calendar.{first-le, le-last}
use Rattle.ion_atoms.proofs.calendar.Minute.moved.Goals as goal

pub returns-clause-some : goal.returns-clause-some
returns-clause-some c =
    let fits : FitsSigned w16 c.args.by = c.ranges.by in
    let sum = simp to_z-of_z at (rw (c.from.ensures, c.from-2.ensures) at c.carried-days.ensures.sum) in
    let date = c.in-Some.ensures.some in
    let low = first-le c.in-Some.date date.0 in
    let high = le-last c.in-Some.date date.0 in (
      λ some. (
        omega (arith, signed_arith, sum, date.1, low, c.carried-days.ensures.minute),
        omega (arith, signed_arith, sum, date.1, high, c.carried-days.ensures.minute),
      ),
      λ within. refl,
    )
