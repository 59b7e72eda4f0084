-- What the functions of this crate answer: the numbers of a row of text, or its first cell that is wrong.
pub mod Entries
pub mod Rows
