pub mod Examples
pub mod Counts
pub mod Passing
pub mod Every
