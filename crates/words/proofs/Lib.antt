pub mod Tallies
pub mod Bitwise
pub mod RowBits
pub mod Updating
pub mod Groups
pub mod Looking
