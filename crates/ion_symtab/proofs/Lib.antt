pub mod Counting
pub mod Systems
pub mod Placing
pub mod Indexing
pub mod Walking
