mod Counting
mod Columns
mod Splicing
