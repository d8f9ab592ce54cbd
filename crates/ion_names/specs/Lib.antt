pub mod Ids
pub mod Later
pub mod Among
pub mod Texts
pub mod laws
pub mod Names
