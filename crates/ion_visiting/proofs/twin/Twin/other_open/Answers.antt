use Rattle.ion_visiting.specs.Names.{opens}
use Rattle.ion_visiting.proofs.Twins.{told_on}
use Rattle.ion_visiting.proofs.twin.Twin.other_open.Goals as goal

pub returns-then-part_ways : goal.returns-then-part_ways
returns-then-part_ways c = λ yes. told_on c.args.self.now c.part_ways.new.self (opens c.args.bracket) c.open.new.self
    (c.part_ways.ensures c.if-part_ways.true) (c.open.ensures yes)
