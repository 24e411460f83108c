pub mod Lexing
pub mod Entering
pub mod Stepping
pub mod Limiting
pub mod Running
pub mod Growing
