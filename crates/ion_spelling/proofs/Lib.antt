pub mod LongWords
