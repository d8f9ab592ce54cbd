pub mod Deciding
pub mod Names
pub mod BinaryNames
