pub mod Keywords
pub mod Output
pub mod Brackets
pub mod TextOut
pub mod Calls
pub mod laws
pub mod Names
