pub mod Scalars
pub mod PieceEnds
pub mod Building
pub mod Levels
pub mod Inserted
pub mod Insides
pub mod Encoded
pub mod Appended
pub mod Tabled
pub mod Calls
pub mod BinaryTold
pub mod Tellings
pub mod Ending
pub mod Giving
pub mod Beginning
pub mod Judged
pub mod OneDigit
pub mod FewDigits
pub mod Shells
pub mod VarUInts
pub mod WalkRuns
pub mod WholeHeaders
pub mod Staying
pub mod Unread
pub mod WholeFields
pub mod Descriptors
mod WholeItems
mod WholeLeaves
mod WholeWrappers
