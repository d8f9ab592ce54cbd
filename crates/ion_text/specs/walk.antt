-- The reader that holds no values.
pub mod Holds
pub mod Takes
pub mod WholeTokens
pub mod Inside
pub mod WordKinds
pub mod Ends
pub mod Fronts
pub mod Advances
pub mod Unusual
pub mod Runs
pub mod Builds
