pub mod Names
pub mod Entries
pub mod Layouts
pub mod Drafts
pub mod Drawing
pub mod Laying
pub mod laws
