pub mod Listing
pub mod Marking
pub mod Reporting
