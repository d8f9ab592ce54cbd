-- What is found of octets in memory.
pub mod Walks
