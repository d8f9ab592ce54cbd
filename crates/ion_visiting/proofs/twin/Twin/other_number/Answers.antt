use Rattle.ion_visiting.specs.Names.{number_payload, part}
use Rattle.ion_visiting.proofs.Twins.{told_on}
use Rattle.ion_visiting.proofs.twin.Twin.other_number.Goals as goal

pub returns-then-part_ways : goal.returns-then-part_ways
returns-then-part_ways c = λ yes. told_on c.args.self.now c.part_ways.new.self (part (number_payload c.args.number)) c.number.new.self
    (c.part_ways.ensures c.if-part_ways.true) (c.number.ensures yes)
