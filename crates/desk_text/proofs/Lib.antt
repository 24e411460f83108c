pub mod Cutting
pub mod Numbers
pub mod Ends
