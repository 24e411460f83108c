pub mod Atoms
pub mod Marking
pub mod Testing
pub mod Reaching
pub mod Breaking
pub mod Leveling
pub mod Judgement
pub mod Deciding
