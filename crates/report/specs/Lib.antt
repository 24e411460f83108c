pub mod Asked
pub mod Reported
