pub mod Placing
pub mod Naming
