-- The words that the contracts of the outside cite.
pub mod Causes
pub mod Transfer
pub mod Devices
pub mod Edge
