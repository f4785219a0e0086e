pub mod Cell
pub mod Drawing
pub mod PixelBits
