-- What many files of this crate cite: types, and definitions of `specs/`, its own and of the crates below.
pub mod Below
unfoldable pub use Below.*
pub use Rattle.ion_scalar.specs.Positional.{positional-append, positional_behind, positional_behind_take, positional_mono, positional_one, positional_push}
pub use Rattle.ion_scalar.specs.binary.Decimal.{IsDecimalField, IsDecimalParts, decimal_with, exponent_fits, with_coefficient, with_exponent}
unfoldable pub use Rattle.ion_scalar.specs.binary.Decimal.{decimal_of_body}
pub use Rattle.ion_scalar.specs.binary.Descriptor.{kind, size, typed}
unfoldable pub use Rattle.ion_scalar.specs.binary.Descriptor.{descriptor_of}
pub use Rattle.ion_scalar.specs.binary.Fields.{Digits128, VarInt, VarUInt, groups, int_field, int_magnitude, int_negative, is_last, is_negative, long, more, none, positional, seven_bits, short, signed_of, six_bits, uint_field, up_to_last, var_int, var_rest, var_uint, with_sign}
pub use Rattle.ion_scalar.specs.binary.Reads.{BeginsWith, BeginsWithInt, GoesOn, GoesOnInt, ReachesInt, ReadsDecimalBody, ReadsVarInt, ReadsVarUInt}
pub use Rattle.ion_scalar.specs.binary.Shifted.{day_at, minute_at}
unfoldable pub use Rattle.ion_scalar.specs.binary.Shifted.{moved}
pub use Rattle.ion_scalar.specs.binary.Spellings.{AreBelow, decimal_octets, int_octets, is_zero, sign_bit, signed_digits, uint_octets, var_int_octets, var_uint_octets}
pub use Rattle.ion_scalar.specs.binary.Timestamp.{AreFields, Begins, EndsOr, IsBehindDay, IsBehindHour, IsBehindMinute, IsBehindMonth, IsBehindSecond, IsBehindYear, IsFractionOf, IsSecondsFraction, IsTimestampBody, and_then, day_known, ends_or, in_range, kept_offset, local_in, minute_of, near, offset_from, read_digits, read_no_digits, shown_at, time_known, with_offset, with_power}
unfoldable pub use Rattle.ion_scalar.specs.binary.Timestamp.{read_behind_day, read_behind_hour, read_behind_minute, read_behind_month, read_behind_second, read_behind_year, read_field, read_fields, read_fraction, read_offset, shown, timestamp_of_body}
pub use Rattle.ion_scalar.specs.binary.TimestampReasons.{AreLargeFields, IsLargeBehindDay, IsLargeBehindHour, IsLargeBehindMinute, IsLargeBehindMonth, IsLargeBehindSecond, IsLargeBehindYear, IsLargeBody, IsLargeFraction, IsLargePart, ReadsTimestampBody}
pub use Rattle.ion_scalar.specs.binary.TimestampSpellings.{ahead_octets, fields_octets, octets_behind_day, octets_behind_minute, octets_behind_month, octets_behind_second, octets_behind_year, utc_of}
unfoldable pub use Rattle.ion_scalar.specs.binary.TimestampSpellings.{timestamp_octets}
pub use Rattle.ion_scalar.specs.declared.backward.TheConstants.{ROOM}
pub use Rattle.ion_scalar.specs.text.Decimals.{IsDecimalBody, IsEnd, IsExponent, IsFraction, IsLetter, IsPlain, IsPower, IsSigned, IsTail, Shows, signed}
pub use Rattle.ion_scalar.specs.text.Ints.{BeginsWithMinus, BeginsWithNone, GoesNotOn, HasBase, IsDigits, IsMagnitude, IsRadix, IsWholePart, continued, digits_in, number}
pub use Rattle.ion_scalar.specs.text.Numbers.{Fits, HasParts, IsBehind, IsFloat, IsFloatBody, IsNumber, IsNumeral, IsThere, ReadsBehind, ReadsNumber, ReadsNumeral, ReadsTimestamp, decimal_read}
pub use Rattle.ion_scalar.specs.text.Texts.{number_text}
pub use Rattle.ion_scalar.specs.text.Timestamps.{AreFourAt, AreTwoAt, BeginsWithDay, BeginsWithMinute, BeginsWithMonth, BeginsWithSecond, IsAt, IsDay, IsDigitAt, IsFractionEnd, IsMonth, IsOffsetToken, IsShort, IsTimestampToken, IsYear, dated, day, four, fraction, minute, minute_read, month, offset_minutes, offset_read, read_precision, second, stamp, timed, two, year}
