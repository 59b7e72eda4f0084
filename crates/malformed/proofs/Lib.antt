-- A text that has a byte; the room of every message; the worked examples.
pub mod HasByte
pub mod MessageRoom
pub mod Examples
