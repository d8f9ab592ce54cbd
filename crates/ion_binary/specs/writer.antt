-- What the writer keeps.
pub mod Puts
pub mod Names
pub mod Calls
