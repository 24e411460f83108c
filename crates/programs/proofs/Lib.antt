pub mod Scans
pub mod Fitting
pub mod Tests
pub mod Listing
