-- The room of every line.
pub mod TableRoom
