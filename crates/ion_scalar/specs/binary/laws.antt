-- What follows for numbers as octets.
pub mod DescriptorRows
pub mod Rests
pub mod VarUInt
pub mod VarInt
pub mod Spellings
pub mod Fewest
pub mod FewestBodies
pub mod Decimal
pub mod Shifted
pub mod Timestamp
pub mod Shown
pub mod TimestampReasons
pub mod TimestampSpellings
pub mod Descriptor
pub mod BodyReasons
pub mod Usual
pub mod Days
