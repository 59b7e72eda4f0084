-- The sentences of refusals, and the numbers that they speak of.
pub mod Counts
pub mod Found
pub mod Sentences
pub mod Examples
