-- What follows for text documents.
pub mod reading
pub mod showing
pub mod writing
