-- What a cell of text holds.
pub mod Reading
pub mod Bytes
pub mod Examples
