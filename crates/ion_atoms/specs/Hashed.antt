-- What decimals and timestamps feed a hasher: every part of them.
use Rattle.std.specs.Prelude.{◌++◌}
use Rattle.std.specs.Hash as fed
use Rattle.std.specs.Hash.{HashWrites}
use Rattle.ion_atoms.specs.declared.timestamp.Local.{Local}
use Rattle.ion_atoms.specs.Decimals.{DecimalParts}
use Rattle.ion_atoms.specs.Timestamps.{TimestampParts, precision_rank}

-- sign, magnitude and exponent
abbrev pub decimal_fed : DecimalParts → HashWrites
decimal_fed d = fed.bool d.negative ++ fed.u128 d.magnitude ++ fed.i32 d.exponent

-- the local fields, the year first
abbrev pub local_fed : Local → HashWrites
local_fed l = fed.u16 l.year ++ fed.u8 l.month ++ fed.u8 l.day ++ fed.u8 l.hour ++ fed.u8 l.minute ++ fed.u8 l.second ++ fed.u128 l.fraction

-- the precision, the offset and the local fields
abbrev pub timestamp_fed : TimestampParts → HashWrites
timestamp_fed t = fed.u16 (precision_rank t.precision) ++ fed.option fed.i16 t.offset ++ local_fed t.local
