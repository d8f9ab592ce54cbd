pub mod Octets
pub mod Endings
pub mod Outcomes
pub mod Names
