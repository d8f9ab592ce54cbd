-- What is written denotes what it was written of.
pub mod Output
pub mod Written
pub mod TableWritten
pub mod RoundTrip
pub mod KeptTexts
pub mod Headers
pub mod Rows
