use Rattle.ion_visiting.specs.Tapes.{role_event}
use Rattle.ion_visiting.proofs.Twins.{role_taped, told_on}
use Rattle.ion_visiting.proofs.twin.Twin.other_symbol.Goals as goal

pub returns-then-part_ways : goal.returns-then-part_ways
returns-then-part_ways c = λ yes. told_on c.args.self.now c.part_ways.new.self (role_event c.args.role c.args.symbol.now) c.write_symbol.new.self
    (c.part_ways.ensures c.if-part_ways.true) (role_taped _ _ c.args.role _ (c.write_symbol.ensures yes))
