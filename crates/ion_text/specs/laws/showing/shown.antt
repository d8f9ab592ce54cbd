-- Octets of which none is refused show the values given (laws::reading_has_pieces).
--
-- Given: they show them, and what is left of them stands open
--   Between: the same between two octets
--     Fronts: whole pieces stand in front of the open item, whatever follows
--     Longest, Opened: no longer front is whole pieces, between items and where one is open
--     OpenRests: what stands open behind them
--       Within: an item within the limit
--       Symbols: behind a symbol that no longer waits a token has begun
-- AllButLast: of whole pieces in front the octets show all, or all but the last (laws::all_but_the_last)
pub mod Symbols
pub mod Within
pub mod Fronts
pub mod OpenRests
pub mod Longest
pub mod Opened
pub mod Between
pub mod Given
pub mod AllButLast
