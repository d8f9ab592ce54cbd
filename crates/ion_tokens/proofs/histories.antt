-- What was told of octets is so in each input that begins with them (`Histories`), and where no token is shown none has ended (`Ended`),
-- since octets follow that show it (`Escapes`). `Stepped` says so of the calls, and `EndCauses` why the end of the octets is refused.
pub mod EndCauses
pub mod Ended
pub mod Escapes
pub mod Histories
pub mod Stepped
