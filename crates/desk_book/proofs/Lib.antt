pub mod Going
pub mod Telling
pub mod Readings
pub mod Looking
pub mod Reasoning
pub mod Winning
