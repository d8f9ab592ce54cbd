-- What runs over octets are: cut anywhere (`Cutting`), octet by octet (`Runs`, `Splits`, `LastOctets`), many at once (`GoesOn`, and whole
-- tokens in memory, `WholeTokens`), and from one call to the next (`Answered`, `Scans`, `Moved`).
pub mod Answered
pub mod Base64Groups
pub mod Behind
pub mod BlobsLetGo
pub mod LobsAtOnce
pub mod Cutting
pub mod EndsShown
pub mod EscapedTexts
pub mod GoesOn
pub mod LastOctets
pub mod Lendings
pub mod LetGo
pub mod Moved
pub mod Runs
pub mod SaidBehind
pub mod Scans
pub mod Splits
pub mod WholeComments
pub mod WholeTokens
pub mod PlainNumerals
