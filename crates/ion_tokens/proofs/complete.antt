-- Whatever the grammar has as tokens, the scanner finds (`Wholes`): each is read as it is spelled, whatever led there (`TakesAll`, by the
-- files of its kinds), and `Moves` has how the scanner comes from mode to mode.
pub mod Found
pub mod Moves
pub mod TakesAll
pub mod TakesBlanks
pub mod TakesLobs
pub mod TakesOperators
pub mod TakesTexts
pub mod TakesWords
pub mod Wholes
