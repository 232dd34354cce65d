pub mod Steps
pub mod Masks
pub mod Strips
pub mod Episodes
pub mod Lines
