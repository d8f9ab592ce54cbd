-- Numbers as octets (Ion 1.0, "Ion Binary Encoding").
pub mod Fields
pub mod Descriptor
pub mod Spellings
pub mod Reads
pub mod Decimal
pub mod VarEnds
pub mod Shifted
pub mod Timestamp
pub mod TimestampReasons
pub mod TimestampSpellings
pub mod laws
