pub mod Shape
pub mod Compositing
pub mod Cutting
