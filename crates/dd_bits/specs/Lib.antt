pub mod Area
pub mod CanonicalList
pub mod Tiles
pub mod Rounding
pub mod Commands
