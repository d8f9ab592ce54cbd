-- What follows from the definitions of layouts.
pub mod OneList
pub mod OneStream
pub mod Worked
pub mod Drawn
pub mod HandedOver
pub mod LaidDown
