-- What follows from the definitions of numbers and timestamps.
pub mod Tests
pub mod Equivalence
pub mod OrderTotal
pub mod Ties
pub mod Hashed
pub mod Calendar
pub mod Neighbours
pub mod Timestamps
