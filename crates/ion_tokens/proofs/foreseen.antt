-- What is known of a token that has begun (`Begins`), that it stays the same one (`OneBegun`) and reaches so far (`Reaches`), and what the
-- next octet shows of it (`Foresights`).
pub mod Begins
pub mod Foresights
pub mod LeftSymbols
pub mod OneBegun
pub mod Reaches
pub mod Since
pub mod Slashes
