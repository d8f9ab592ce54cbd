-- What the code keeps, as the definitions have it.
pub mod FromRead
pub mod ToWrite
pub mod Places
pub mod Segments
pub mod Seen
