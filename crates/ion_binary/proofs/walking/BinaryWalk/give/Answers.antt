use Rattle.std.proofs.Common.{None, refl}
use Rattle.ion_binary.specs.Names.{Ready}
use Rattle.ion_binary.proofs.Giving.{gives_out}
use Rattle.ion_binary.proofs.walking.BinaryWalk.give.Goals as goal

pub returns-then-ends_plain-clause-does : goal.returns-then-ends_plain-clause-does
returns-then-ends_plain-clause-does c = λ v h.
    let r = c.args.self.now in
    gives_out r (record r { start = r.used; phase = Ready; filter = c.ends_plain.new.self }) c.requires.top refl v None refl
    (c.ends_plain.ensures.plain c.if-ends_plain.true v h) refl
