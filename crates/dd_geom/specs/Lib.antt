pub mod Rect
pub mod Grid
pub mod Scrolling
pub mod Bytes
