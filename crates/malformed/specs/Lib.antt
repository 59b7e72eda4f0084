-- The messages on malformed texts.
pub mod Messages
pub mod Examples
