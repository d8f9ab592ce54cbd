-- A document is read to its end, and gives its values (laws::reading_is_exact, from the grammar to the trace).
--
-- Accepts: the reader of octets accepts each document
--   Pieces: the tokens of a document lead the reader of tokens to its stream
--     Complete: those of a value lead it to that value
--   Tokens: octets that are tokens lead the reader of octets where they lead the reader of tokens
--     Meets, Found: the scanner meets the tokens that octets are
--     Exact: where quotes are open, they are the octets since the token began
--   Quiet: before a token has ended there is no reason to refuse
--     Going: tokens that go on to the end of a document
--   Segments, Fuel: an octet that waits behind a long string; three tries are enough
pub mod Complete
pub mod Pieces
pub mod Meets
pub mod Segments
pub mod Going
pub mod Found
pub mod Exact
pub mod Quiet
pub mod Fuel
pub mod Tokens
pub mod Accepts
