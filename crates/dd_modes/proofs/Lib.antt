pub mod Examples
pub mod Limits
