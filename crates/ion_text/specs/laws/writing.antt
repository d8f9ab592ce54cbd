-- What is written denotes what it was written of.
pub mod Spelled
pub mod Written
pub mod ValuesWritten
pub mod RoundTrip
