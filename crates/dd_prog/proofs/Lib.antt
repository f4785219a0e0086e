pub mod ClientThere
pub mod Kept
pub mod Left
pub mod Recorded
pub mod Completing
pub mod Playing
pub mod Pieces
pub mod Pictured
pub mod NoInput
pub mod Numerals
pub mod Examples
pub mod Told
mod Taken
pub mod MadeRuns
pub mod Limits
