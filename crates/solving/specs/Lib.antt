pub mod Tests
pub mod Bounds
pub mod Reached
pub mod Levels
pub mod Following
pub mod Judged
