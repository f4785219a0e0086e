pub mod Openings
pub mod Slots
