pub mod Loaded
pub mod Desks
pub mod Asked
pub mod Told
pub mod Reasons
pub mod Winners
