-- What Names passes on and what rests on no file of `specs/` here: types, and definitions of the crates below.
pub use Rattle.ion_atoms.specs.Calendar.{InYears, IsDate, IsMinute, day_number, first_day, is_leap, last_day, minute_number, month_length}
pub use Rattle.ion_atoms.specs.Decimals.{DecimalParts, IsDecimal}
pub use Rattle.ion_atoms.specs.Neighbours.{day_of, next_day, previous_day}
pub use Rattle.ion_atoms.specs.Ranges.{IsWhole}
pub use Rattle.ion_atoms.specs.Texts.{clock_text, cut_text, day_text, decimal_text, four_digits, minus, minute_text, month_text, offset_text, padded, second_text, timestamp_text, two_digits}
pub use Rattle.ion_atoms.specs.TimestampBounds.{farthest_offset, last_hour, last_minute, last_month, last_second, last_year, most_digits}
pub use Rattle.ion_atoms.specs.Timestamps.{HasOffset, IsCut, IsOffset, IsTime, IsTimestamp, TimestampParts, instant, local_date, local_minute, minutes_ahead, precision_rank, utc_minute}
pub use Rattle.ion_atoms.specs.declared.calendar.Date.{Date}
pub use Rattle.ion_atoms.specs.declared.calendar.Minute.{Minute}
pub use Rattle.ion_atoms.specs.declared.kind.Kind.{Kind}
pub use Rattle.ion_atoms.specs.declared.refusal.Reason.{Reason}
pub use Rattle.ion_atoms.specs.declared.refusal.Reason.TheVariants.{Float, Incomplete, Malformed, Memory, TooLarge}
pub use Rattle.ion_atoms.specs.declared.timestamp.Local.{Local}
pub use Rattle.ion_atoms.specs.declared.timestamp.Precision.{Precision}
pub use Rattle.ion_scalar.specs.declared.decimals.Tail.{Tail}
pub use Rattle.ion_scalar.specs.declared.descriptor.Descriptor.{Descriptor}
pub use Rattle.ion_scalar.specs.declared.descriptor.Descriptor.TheVariants.{Body, Marker, Null, Ordered, Pad, Truth}
pub use Rattle.ion_scalar.specs.declared.descriptor.Size.TheVariants.{Follows, Known}
pub use Rattle.ion_scalar.specs.declared.fields.Signed.{Signed}
pub use Rattle.ion_scalar.specs.declared.number.Number.{Number}
pub use Rattle.ion_scalar.specs.declared.short_number.ShortNumber.{ShortNumber}
pub use Rattle.ion_scalar.specs.declared.timestamp_body.Utc.{Utc}
pub use Rattle.ion_scalar.specs.declared.timestamps.Stamp.{Stamp}
