-- A value comes with its last octet, or before the one that shows its end (laws::reading_ends_values).
--
-- AtItsEnd: the first value that the next octet gives is that which the end would give
--   Unused: the octet that shows the end of a value isn't part of it
pub mod Unused
pub mod AtItsEnd
