pub mod Run
pub mod Station
pub mod Opening
