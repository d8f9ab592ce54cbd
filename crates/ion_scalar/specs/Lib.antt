pub mod Positional
pub mod binary
pub mod text
pub mod Names
