-- The laws of a prepared ratio: its digits and its parts.
pub mod Reciprocal
pub mod Ratios
