pub mod Script
pub mod Readable
pub mod Tree
pub mod Reading
pub mod Pieces
