-- The words that the contracts of the top call cite.
pub mod Faults
pub mod Status
pub mod Words
pub mod Exchange
pub mod Options
pub mod CommandLine
pub mod Commands
pub mod Outcome
pub mod Keeping
pub mod Whole
pub mod Viewing
pub mod Recording
pub mod Leaving
pub mod Telling
