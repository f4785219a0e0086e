pub mod Counting
pub mod Examples
pub mod Honest
pub mod Rebuilding
pub mod Origins
pub mod Nowhere
pub mod Hiding
pub mod Veiling
