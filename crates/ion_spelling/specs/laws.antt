-- What follows for what is written.
pub mod Output
pub mod Quoted
pub mod TextTold
