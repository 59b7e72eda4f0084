-- What is sought in a text, and its lines, byte by byte.
pub mod Bytes
pub mod Search
pub mod Lines
