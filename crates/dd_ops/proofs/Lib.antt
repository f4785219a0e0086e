pub mod Examples
pub mod Fitting
pub mod Pictures
pub mod Seen
pub mod Veiling
