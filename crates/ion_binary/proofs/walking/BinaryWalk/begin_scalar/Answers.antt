use Rattle.std.proofs.Common.{◌-◌, Ok, ap, sym, refl}
use Rattle.ion_binary.specs.Names.{Goes, InBody, goes, in_body, spot_of, told}
use Rattle.ion_binary.proofs.Beginning.{goes_alone}
use Rattle.ion_binary.proofs.Ending.{is_at, isnt_at}
use Rattle.ion_binary.proofs.Tellings.{does_alone}
use Rattle.ion_binary.proofs.walking.BinaryWalk.begin_scalar.Goals as goal

pub returns-then-size-eq0-clause-does : goal.returns-then-size-eq0-clause-does
returns-then-size-eq0-clause-does g c = λ fs h around. rw (is_at c.args.size 0 c.if-size-eq0.true) (c.leaf.ensures.does fs h around)

pub returns-clause-does : goal.returns-clause-does
returns-clause-does g c = λ fs h around.
    let r = c.args.self.now in
    let new = record r { body = c.clear.new.self; phase = InBody c.args.scalar (c.args.size - 1) } in
    does_alone g.V.Visitor.takes (told fs) _ (Ok Goes) new c.args.visitor.now (goes_alone r new fs _
    (rw (isnt_at c.args.size 0 c.if-size-eq0.false) (ap (λ w. goes (in_body (spot_of r) fs c.args.scalar (c.args.size - 1) w)) (sym c.clear.ensures)))
    refl refl refl around h)
