-- What follows from the definitions of tables, contexts and devices.
pub mod Told
pub mod Heard
pub mod Took
pub mod Causes
pub mod Promises
pub mod Tables
pub mod Reasons
pub mod Decided
pub mod Contexts
pub mod LocalTables
pub mod WorkedNumbers
pub mod WorkedTables
pub mod Pruned
pub mod ContextTexts
pub mod Builds
