-- What follows for numbers as tokens.
pub mod DigitRuns
pub mod OneRun
pub mod Signs
pub mod DecimalTails
pub mod DecimalCuts
pub mod Unsigned
pub mod ShortNumbers
pub mod PlainNumerals
pub mod UsualTokens
pub mod TimestampForms
pub mod OneNumber
pub mod Texts
pub mod TimestampTexts
pub mod Deciding
pub mod DecidedNumbers
pub mod DecidedTimestamps
