use Rattle.std.proofs.Common.{◌+◌}
use Rattle.ion_binary.specs.Names.{begin, setting_of, spot_of}
use Rattle.ion_binary.proofs.Shells.{fits, may_begin, unfit_refused}
use Rattle.ion_binary.proofs.walking.BinaryWalk.sized.Goals as goal

pub returns-in-Some-unfit-clause-does : goal.returns-in-Some-unfit-clause-does
returns-in-Some-unfit-clause-does g c = λ fs h other.
    let r = c.args.self.now in
    rw (← c.in_default.ensures) (unfit_refused r fs h c.args.form (r.used + c.args.size) _ c.in-Some-unfit.reason c.in-Some-unfit.ensures)

pub returns-in-None-clause-does : goal.returns-in-None-clause-does
returns-in-None-clause-does g c = λ fs h.
    let r = c.args.self.now in
    let to = r.used + c.args.size in
    rw (← c.in_default.ensures, fits r fs h c.args.form to (begin (setting_of r) (spot_of r) fs c.args.form c.args.size) c.in-None.ensures)
    (c.begin.ensures.does fs h (may_begin r fs h c.args.form to c.in-None.ensures))
