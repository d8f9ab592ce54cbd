-- The machine reads what the grammar says.
pub mod Brackets
pub mod Effects
pub mod sound
pub mod complete
pub mod small
pub mod ValuesKept
pub mod Promises
pub mod Stops
pub mod NoTables
pub mod Reasons
pub mod Stands
pub mod Tells
pub mod Rows
