use Rattle.std.proofs.Common.{refl}
use Rattle.ion_scalar.specs.Names.{month_length}
use Rattle.ion_atoms.specs.laws.Neighbours.{month_most}
use Rattle.ion_scalar.specs.binary.laws.Days.{day_read}
use Rattle.ion_scalar.proofs.timestamp_usual.day_part.Goals as goal

pub returns-in-Some-clause-read : goal.returns-in-Some-clause-read
returns-in-Some-clause-read c =
    let has = c.if-has_day.ensures.0 refl in
    day_read (month_length c.args.year c.args.month) (month_most c.args.year c.args.month) c.args.octets.now (c.in-Some.day, 1) c.in-Some.ensures.read has.1
