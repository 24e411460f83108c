pub mod Sided
pub mod Earlier
pub mod Read
pub mod Loaded
