pub mod Effects
pub mod Rebuild
pub mod Interval
pub mod Hidden
