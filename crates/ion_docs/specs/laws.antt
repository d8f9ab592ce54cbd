-- What follows for documents of either encoding.
pub mod ByFirstOctet
pub mod Documents
pub mod Begun
pub mod Walks
pub mod Readers
pub mod Encodings
pub mod Conversion
