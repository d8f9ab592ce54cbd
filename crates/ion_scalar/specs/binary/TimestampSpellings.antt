-- How timestamps are written as octets: the offset, then the fields in UTC up to the precision.
use Rattle.std.specs.Prelude.{ℕ, ℤ, pos, neg_ℤ, int_lt, unsigned_abs, true, false, List, [], ◌++◌, Option, Some, None}
use Rattle.ion_scalar.specs.Names.Below.{Precision, TimestampParts, Utc, local_minute, minutes_ahead}
use Rattle.ion_scalar.specs.binary.Shifted.{moved}
use Rattle.ion_scalar.specs.binary.Spellings.{int_octets, var_int_octets, var_uint_octets}

-- the unknown offset is -0
abbrev pub ahead_octets : Option ℤ → List ℕ
ahead_octets None = var_int_octets true 0
ahead_octets (Some minutes) = var_int_octets (int_lt minutes (pos 0)) (unsigned_abs minutes)

-- the fields in UTC
abbrev pub utc_of : TimestampParts → Utc
utc_of t = record {
  minute = moved (local_minute t.local) (neg_ℤ (minutes_ahead t.offset));
  second = t.local.second;
  fraction = t.local.fraction;
  precision = t.precision;
}

-- d digits are the exponent -d and a coefficient
abbrev pub octets_behind_second : Precision → Utc → List ℕ
octets_behind_second (Precision.Fraction digits) utc = var_int_octets true digits ++ int_octets false utc.fraction
octets_behind_second _ utc = []

-- the second and what stands behind it, from second precision on
abbrev pub octets_behind_minute : Precision → Utc → List ℕ
octets_behind_minute Precision.Year utc = []
octets_behind_minute Precision.Month utc = []
octets_behind_minute Precision.Day utc = []
octets_behind_minute Precision.Minute utc = []
octets_behind_minute precision utc = var_uint_octets utc.second ++ octets_behind_second precision utc

-- the hour, the minute and what stands behind them, from minute precision on
abbrev pub octets_behind_day : Precision → Utc → List ℕ
octets_behind_day Precision.Year utc = []
octets_behind_day Precision.Month utc = []
octets_behind_day Precision.Day utc = []
octets_behind_day precision utc =
    var_uint_octets utc.minute.hour ++ (var_uint_octets utc.minute.minute ++ octets_behind_minute precision utc)

-- the day and what stands behind it, from day precision on
abbrev pub octets_behind_month : Precision → Utc → List ℕ
octets_behind_month Precision.Year utc = []
octets_behind_month Precision.Month utc = []
octets_behind_month precision utc = var_uint_octets utc.minute.date.day ++ octets_behind_day precision utc

-- the month and what stands behind it, from month precision on
abbrev pub octets_behind_year : Precision → Utc → List ℕ
octets_behind_year Precision.Year utc = []
octets_behind_year precision utc = var_uint_octets utc.minute.date.month ++ octets_behind_month precision utc

-- the year and what stands behind it to the precision
abbrev pub fields_octets : Utc → List ℕ
fields_octets utc = var_uint_octets utc.minute.date.year ++ octets_behind_year utc.precision utc

unfoldable pub timestamp_octets : TimestampParts → List ℕ
timestamp_octets t = ahead_octets t.offset ++ fields_octets (utc_of t)
