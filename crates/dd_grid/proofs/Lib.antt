pub mod DrawingLemmas
pub mod Examples
pub mod MovingLemmas
pub mod SeenLemmas
