-- The laws of a cell that is read from the left; the worked examples.
pub mod Digits
pub mod Examples
