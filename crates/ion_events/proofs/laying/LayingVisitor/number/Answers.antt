use Rattle.std.proofs.Common.{refl}
use Rattle.ion_events.proofs.Placed.{number_down}
use Rattle.ion_events.proofs.laying.LayingVisitor.number.Goals as goal

pub returns : goal.returns
returns g c = λ h.
    let b = record c.args.self.now { draft = c.number.new.self } in
    number_down c.args.self.now b refl refl c.args.number c.number_kept.ensures (c.number.ensures h)
