pub mod Covering
pub mod Reading
