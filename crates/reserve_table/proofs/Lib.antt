-- The laws of totals, and the room of every line.
pub mod TotalsSum
pub mod TableRoom
