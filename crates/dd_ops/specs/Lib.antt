pub mod Operations
pub mod Veil
