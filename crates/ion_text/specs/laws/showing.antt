-- What octets show of a document, read by the reader of text.
pub mod tokens
pub mod shown
pub mod refused
pub mod ended
