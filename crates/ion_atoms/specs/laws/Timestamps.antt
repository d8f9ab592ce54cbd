-- A timestamp's precision, offset and instant tell it from all others.
use Rattle.std.proofs.Common.{◌≡◌, ap, arith}
use Rattle.jiff.proofs.SpanFacts.{signed_arith}
use Rattle.ion_atoms.specs.Calendar.{IsMinute, minute_number}
use Rattle.ion_atoms.specs.laws.Calendar.{minute_number-injective}
use Rattle.ion_atoms.specs.Timestamps.{TimestampParts, IsTimestamp, local_minute, minutes_ahead, utc_minute, instant}

-- a timestamp's local minute is a minute of a day of the years 1 to 9999
pub local_minute-is : (t : TimestampParts) → IsTimestamp t → IsMinute (local_minute t.local)
local_minute-is t h = record { date = h.date; hour = h.time.0; minute = h.time.1 }

-- timestamps of the same precision, offset and instant are the same
pub one_timestamp : (s t : TimestampParts) → IsTimestamp s → IsTimestamp t → s.precision ≡ t.precision → s.offset ≡ t.offset → instant s ≡ instant t → s ≡ t
one_timestamp s t h k precision offset same =
    let utc : utc_minute s ≡ utc_minute t = ap (λ x. x.minute) same in
    let ahead : minutes_ahead s.offset ≡ minutes_ahead t.offset = ap minutes_ahead offset in
    let number : minute_number (local_minute s.local) ≡ minute_number (local_minute t.local) = omega (arith, signed_arith, utc, ahead) in
    let minute = minute_number-injective (local_minute s.local) (local_minute t.local) (local_minute-is s h) (local_minute-is t k) number in
    λ i. record {
      local = record {
        year = (minute i).date.year;
        month = (minute i).date.month;
        day = (minute i).date.day;
        hour = (minute i).hour;
        minute = (minute i).minute;
        second = (same i).second;
        fraction = (same i).fraction;
      };
      precision = precision i;
      offset = offset i;
    }
