-- What follows from the definitions of events and of visitors.
pub mod Led
pub mod Trees
pub mod KeptEvents
pub mod Built
pub mod Counted
pub mod Outlined
pub mod Skims
pub mod Filters
