-- Which octet is refused, and why, is a row of the table.
pub mod Lexical
pub mod Openings
pub mod Shows
pub mod Turns
pub mod Lates
pub mod Octets
pub mod AtEnd
-- Where a row of it stands, octets are refused.
pub mod Fronts
pub mod Comings
pub mod Tokens
pub mod Waiting
pub mod Agree
pub mod OneOctet
pub mod Lines
pub mod OneEnd
pub mod Heading
pub mod Reaching
pub mod Finding
pub mod Stopped
pub mod LineEnds
pub mod EndStopped
pub mod Rows
