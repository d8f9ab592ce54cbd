pub mod Lines
pub mod Endings
pub mod Named
pub mod Names
pub mod Arguments
pub mod Asking
pub mod Owed
pub mod kept
