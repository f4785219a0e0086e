mod Examples
pub mod Running
pub mod Others
pub mod LookingBack
pub mod Remembering
pub mod Told
pub mod ToldNext
pub mod Finding
pub mod RefusingLists
pub mod Refusing
pub mod Earlier
pub mod Showing
pub mod ShowingBuffers
pub mod Granting
pub mod ToldMore
pub mod Traced
pub mod Placed
pub mod Quiet
pub mod SlotsTold
pub mod Entering
pub mod Unnumbered
pub mod Independence
pub mod Veiling
mod VeilExamples
mod TraceExamples
pub mod ShowingSlots
pub mod EachStep
