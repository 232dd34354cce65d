pub mod Refusals
pub mod Indices
pub mod Slots
