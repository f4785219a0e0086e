pub mod Independence
pub mod Trace
pub mod Causes
pub mod Entered
pub mod Headline
pub mod Veil
