-- Refusals are those of the tables: text, binary.
pub mod deciding
pub mod refusals
