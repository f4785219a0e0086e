-- The words that the contracts of the generator cite.
pub mod Making
pub mod Generator
pub mod EverySeed
