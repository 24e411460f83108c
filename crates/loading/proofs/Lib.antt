pub mod Taking
pub mod Threes
pub mod Exactly
