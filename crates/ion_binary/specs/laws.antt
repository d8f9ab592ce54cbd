-- What follows for binary documents.
pub mod reading
pub mod writing
