pub mod Model
pub mod Limits
pub mod Programs
pub mod Listed
pub mod MaskRules
pub mod Masked
