use Rattle.std.proofs.Common.{rules, arith}
use Rattle.ion_symtab.proofs.Counting.{Counts-take}
use Rattle.ion_symtab.proofs.segments.Segments.truncate.Goals as goal

pub invariant_of-self : goal.invariant_of-self
invariant_of-self c =
    let counts = rw (← c.truncate.ensures.items)
    at (Counts-take _ _ c.args.count c.self.inside.segments.items c.self.invariant.0 (rw (← c.self.view_is) at c.end_of-self-inside.ensures)) in
    (counts, record { are = search rules; within = omega (arith, counts.ends) })
