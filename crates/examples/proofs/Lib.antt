pub mod Answering
pub mod Ordering
pub mod Beating
pub mod Playing
pub mod Checking
