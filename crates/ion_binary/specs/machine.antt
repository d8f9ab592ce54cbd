-- The reader as a machine.
pub mod Frames
pub mod EachOctet
pub mod Run
pub mod Views
pub mod Pieces
pub mod AtOnce
pub mod Framed
