pub mod ByCalls
mod Pasting
mod Screens
mod Following
mod Tally
pub mod Played
mod Ranges
mod RuleKeeping
pub mod WholeRecord
pub mod RecordExamples
pub mod MadeReadable
pub mod Calm
pub mod Rests
pub mod RoundsGranted
pub mod Granted
