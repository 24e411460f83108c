pub mod Words
pub mod Verbs
pub mod Commands
pub mod Lines
