-- Octets that the reader reads to their end are a document with the values it gave (laws::reading_is_exact, from the trace to the grammar).
--
-- Admits: octets that the end accepts are a document
--   Steps: each octet leads from what stands for octets to what stands for those and that one
--     Held: whole pieces and the tokens of the open item stand for the octets, one token after the other
--       Sound: the same of the reader of tokens
--         StandsOpen: what stands open for the tokens of the open item
--         Depths: what it gives is no deeper than the limit
--         MarkerWords: which tokens are one word of the form of a version marker
--     Quotes: which tokens come of which octets
-- Spans: where an item begins and ends
pub mod Quotes
pub mod Depths
pub mod MarkerWords
pub mod StandsOpen
pub mod Sound
pub mod Spans
pub mod Held
pub mod Steps
pub mod Admits
