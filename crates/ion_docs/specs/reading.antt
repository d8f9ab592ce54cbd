-- How documents of either encoding are read.
pub mod Chosen
pub mod DocTold
pub mod DocStands
