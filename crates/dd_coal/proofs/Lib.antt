pub mod Examples
pub mod Least
pub mod Short
