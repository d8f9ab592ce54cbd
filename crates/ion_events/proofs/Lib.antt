mod Spelled
mod Placed
