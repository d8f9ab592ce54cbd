-- What a visitor makes of the values that it is told.
pub mod Brackets
pub mod BinaryOut
