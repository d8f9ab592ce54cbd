-- What the scanner tells is what the octets are (`Told`): octet by octet (`Sounds`), at the end (`SoundEnds`) and over all of them
-- (`SoundHistories`). `Opens` and `Holds` say what the octets of an open token are in each mode; the files `Turns..` say what one more makes
-- of them.
pub mod Holds
pub mod HoldsBlank
pub mod HoldsStep
pub mod Opens
pub mod SoundEnds
pub mod SoundHistories
pub mod Sounds
pub mod Told
pub mod TurnsBlanks
pub mod TurnsLobs
pub mod TurnsOperators
pub mod TurnsTexts
pub mod TurnsWords
