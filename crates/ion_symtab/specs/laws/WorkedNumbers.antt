-- Numbers of worked rows.
use Rattle.std.proofs.Common.{pos, negsuc, true, false, None}
use Rattle.ion_atoms.specs.Decimals.{DecimalParts}
use Rattle.ion_atoms.specs.Timestamps.{TimestampParts}
use Rattle.ion_atoms.specs.declared.timestamp.Precision.{Precision}

-- the year 2007
abbrev pub in_2007 : TimestampParts
in_2007 = record {
  local = record { year = 2007; month = 1; day = 1; hour = 0; minute = 0; second = 0; fraction = 0 };
  precision = Precision.Year;
  offset = None;
}

abbrev pub minus_zero : DecimalParts
minus_zero = record { negative = true; magnitude = 0; exponent = pos 0 }

abbrev pub one_and_a_half : DecimalParts
one_and_a_half = record { negative = false; magnitude = 15; exponent = negsuc 0 }
