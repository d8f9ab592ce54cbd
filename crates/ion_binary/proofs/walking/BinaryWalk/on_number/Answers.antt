use Rattle.std.proofs.Common.{arith}
use Rattle.ion_binary.specs.Names.{setting_of, spot_of, told}
use Rattle.ion_binary.proofs.Tellings.{does_alone}
use Rattle.ion_binary.proofs.VarUInts.{number_ends, number_goes_on, number_large}
use Rattle.ion_binary.proofs.walking.BinaryWalk.on_number.Goals as goal

pub returns-then-so_far-clause-does : goal.returns-then-so_far-clause-does
returns-then-so_far-clause-does g c = λ fs h other.
    let r = c.args.self.now in
    number_large (setting_of r) (spot_of r) fs c.args.purpose c.args.so_far c.args.octet (omega arith)

pub returns-then-octet-lt128-clause-does : goal.returns-then-octet-lt128-clause-does
returns-then-octet-lt128-clause-does g c = λ fs h.
    let r = c.args.self.now in
    rw (number_goes_on (setting_of r) (spot_of r) fs c.args.purpose c.args.so_far c.args.octet (omega arith) (omega arith), ← c.from.ensures)
    (does_alone g.V.Visitor.takes (told fs) _ c.longer.result c.longer.new.self c.args.visitor.now (c.longer.ensures.does fs h))

pub returns-clause-does : goal.returns-clause-does
returns-clause-does g c = λ fs h.
    let r = c.args.self.now in
    rw (number_ends (setting_of r) (spot_of r) fs c.args.purpose c.args.so_far c.args.octet (omega arith) (omega arith) (omega arith), ← c.from-2.ensures)
    (c.number_came.ensures.does fs h)
