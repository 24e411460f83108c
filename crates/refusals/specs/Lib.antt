pub mod Numbers
pub mod Room
pub mod Line
