pub mod Lines
pub mod Calls
pub mod Masks
pub mod Stores
