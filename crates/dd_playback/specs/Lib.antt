-- The words that the laws of records and of made scripts cite.
pub mod FramesShown
pub mod Records
pub mod MadeScripts
