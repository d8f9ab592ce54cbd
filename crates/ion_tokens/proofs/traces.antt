-- The calls of a scanner answer what a trace says (`Traced`); it tells the tokens that the octets are (`TraceTokens`), and octets that are
-- tokens have one (`TokensTraced`).
pub mod Traced
pub mod TokensTraced
pub mod TraceTokens
