pub mod Firsts
pub mod Scanning
pub mod Noting
pub mod Asking
pub mod Loadings
pub mod Showings
pub mod Calls
pub mod Judged
