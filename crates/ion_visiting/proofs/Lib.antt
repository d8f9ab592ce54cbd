pub mod Followed
pub mod Sought
pub mod Taped
pub mod Twins
pub mod Shorts
mod ToldItems
pub mod SameOctets
