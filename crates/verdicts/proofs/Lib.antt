-- Laws for the crates above.
pub mod Counts
pub mod Refusals
