pub mod Tabs
pub mod RowWords
pub mod Loops
pub mod Lent
pub mod Seeking
pub mod Combining
pub mod Filling
