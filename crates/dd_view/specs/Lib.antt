pub mod Playing
pub mod Player
pub mod Ppm
pub mod Records
pub mod Readers
pub mod Screens
