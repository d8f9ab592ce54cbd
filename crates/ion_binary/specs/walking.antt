-- The reader that holds no values.
pub mod Holds
pub mod Leaves
pub mod Runs
