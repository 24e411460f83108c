pub mod Matching
pub mod Trying
