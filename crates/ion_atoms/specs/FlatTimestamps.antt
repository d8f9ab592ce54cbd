-- Which parts a timestamp has that keeps its local fields flat.
use Rattle.ion_atoms.specs.declared.timestamp.Timestamp.TheInside.{Inside}
use Rattle.ion_atoms.specs.Timestamps.{TimestampParts}

-- its local fields as one record, its precision and its offset
abbrev pub parts_of : Inside → TimestampParts
parts_of t = record {
  local = record {
    year = t.year;
    month = t.month;
    day = t.day;
    hour = t.hour;
    minute = t.minute;
    second = t.second;
    fraction = t.fraction;
  };
  precision = t.precision;
  offset = t.offset;
}
