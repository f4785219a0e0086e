pub mod InRange
pub mod ReadBack
pub mod LineFeed
pub mod TreeBack
pub mod LineBack
pub mod Examples
