-- Numbers as tokens (Ion 1.0, "Ion Text Encoding").
pub mod Ints
pub mod Decimals
pub mod Timestamps
pub mod Numbers
pub mod PlainNumerals
pub mod Texts
pub mod Reading
pub mod laws
