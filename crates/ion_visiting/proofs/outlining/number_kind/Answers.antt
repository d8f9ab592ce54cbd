use Rattle.std.proofs.Common.{refl}
use Rattle.ion_visiting.specs.Names.{outs-Decimal, outs-Int, outs-Timestamp}
use Rattle.ion_visiting.proofs.outlining.number_kind.Goals as goal

pub returns-in-Int : goal.returns-in-Int
returns-in-Int c = rw (c.in-Int.is, outs-Int c.in-Int.field-0) refl

pub returns-in-Decimal : goal.returns-in-Decimal
returns-in-Decimal c = rw (c.in-Decimal.is, outs-Decimal c.in-Decimal.field-0) refl

pub returns-in-Timestamp : goal.returns-in-Timestamp
returns-in-Timestamp c = rw (c.in-Timestamp.is, outs-Timestamp c.in-Timestamp.field-0) refl
