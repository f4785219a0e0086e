pub mod Examples
pub mod GridLemmas
pub mod PaintLemmas
pub mod RectLemmas
pub mod ScrollLemmas
pub mod ByteLemmas
