pub mod Writing
pub mod laws
pub mod Names
