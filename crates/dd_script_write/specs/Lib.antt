pub mod Answers
pub mod Spelling
pub mod Texts
