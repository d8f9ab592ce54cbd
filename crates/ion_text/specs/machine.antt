-- The reader as a machine.
pub mod EachToken
pub mod Run
pub mod Views
pub mod Pieces
pub mod TokenLists
pub mod Passed
pub mod Progress
pub mod AtOnce
pub mod Nested
pub mod Walked
pub mod FrontTokens
pub mod LongStrings
pub mod Places
pub mod Ways
