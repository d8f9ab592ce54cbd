-- The machine reads what the grammar says, and refuses what the format's table says.
--
-- Promises: what the reader promises of octets (laws of `Items`, for BinaryReaderItems); Apart, Standing, Walking: and of where it stands
--   Documents: a document is read to its end, and gives its stream
--     Complete: the octets of a value lead the machine to that value
--   sound: what a run leaves stands for its octets
--     Stands: what octets and a machine have to do with one another
--     Judged: a scalar's body is what the grammar says
--   OpenRests: octets that aren't refused are whole pieces, and then an open rest
--   Stops: where a run goes on, and where it is refused
--   Steady, Decided: no octet is refused for want of memory or octets
--   Small: a value has no more nodes than its item has octets
-- sound: each refusal has a row
--   Openings, RefusedRows: what the machine holds is what stands open (OpenFrames), and where it refuses a row stands
--   OnlyReasons: what a descriptor is refused for
-- DocumentKept, GivesKept: the values of octets are kept (laws::document_values, round_trip)
-- HeaderRows, PlainRows: headers, nulls and bools are those of the specification's table (laws::headers)
-- Rows: worked documents (laws::worked_documents)
pub mod Stands
pub mod Judged
pub mod Complete
pub mod sound
pub mod Decided
pub mod Small
pub mod Steady
pub mod OpenRests
pub mod HeaderRows
pub mod PlainRows
pub mod Rows
pub mod Documents
pub mod Stops
pub mod Promises
pub mod Apart
pub mod Standing
pub mod Walking
pub mod GivesKept
pub mod DocumentKept
pub mod OpenFrames
pub mod Openings
pub mod RefusedRows
pub mod OnlyReasons
