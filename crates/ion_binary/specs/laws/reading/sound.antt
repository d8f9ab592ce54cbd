-- What a run of the machine leaves stands for its octets and for the values that it gave, and for what it refuses there is a row
-- (`exact` of BinaryReaderItems, from the trace to the grammar; laws::refusals, from the trace to the table).
--
-- Sound: whole runs, octet by octet
--   Markers: an octet of a version marker
--   Numbers: an octet of a VarUInt
--     Headers: a descriptor, and the body that begins with the end of a header
--   Bodies: an octet of a scalar's body or of a pad
--     Containers: a value or a pad that ends, and each container that ends with it
--     Bounds: what the machine's tests of bounds say
pub mod Bounds
pub mod Containers
pub mod Markers
pub mod Headers
pub mod Numbers
pub mod Bodies
pub mod Sound
