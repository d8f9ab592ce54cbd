-- What follows for what is written.
pub mod Rows
