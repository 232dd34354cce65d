pub mod Machine
pub mod Kinds
pub mod Collectors
pub mod Trials
pub mod Successions
