-- The cells and the words of a line, byte by byte.
pub mod Cells
pub mod Words
