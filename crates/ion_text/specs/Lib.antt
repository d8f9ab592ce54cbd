pub mod Grammar
pub mod machine
pub mod walk
pub mod visiting
pub mod laws
pub mod Names
