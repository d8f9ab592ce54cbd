-- What follows for tokens. Crates above cite these names.
pub mod Again
pub mod Blobs
pub mod ByRows
pub mod Each
pub mod Follows
pub mod Numerals
pub mod Judged
pub mod Tokens
pub mod TokensKept
pub mod TokensTraced
