pub mod Grammar
pub mod Spelling
pub mod Accepted
pub mod Loaded
