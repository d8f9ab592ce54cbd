-- What the code keeps, as the definitions have it.
pub mod Spelled
