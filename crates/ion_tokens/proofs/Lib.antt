-- Lemmas behind this crate's contracts. Crates above cite some of them in their specs, so names and statements are part of what this
-- crate gives.
pub mod Digits
pub mod bounds
pub mod complete
pub mod foreseen
pub mod histories
pub mod masks
pub mod runs
pub mod sound
pub mod texts
pub mod traces
pub mod Usual
