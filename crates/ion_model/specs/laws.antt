-- What follows from the definitions of values.
pub mod Kept
pub mod Order
pub mod OrderTotal
pub mod Parts
pub mod OrderEqual
pub mod Hashed
pub mod Measures
pub mod Counts
pub mod Same
pub mod Equivalence
pub mod PartingSteps
pub mod PathsSame
pub mod Views
