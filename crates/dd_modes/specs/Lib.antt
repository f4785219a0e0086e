pub mod Modes
pub mod Numbers
pub mod Turning
