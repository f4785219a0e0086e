pub mod Desk
pub mod Events
pub mod History
pub mod Log
pub mod Picture
pub mod Slots
pub mod Veil
