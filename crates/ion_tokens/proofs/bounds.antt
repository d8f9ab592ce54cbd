-- How much a scanner keeps and how often it looks at an octet (`Steady`, `Pending`), and for which reasons it refuses (`Causes`): by the
-- table, mode by mode (`Fits`).
pub mod Causes
pub mod Fits
pub mod Pending
pub mod Steady
