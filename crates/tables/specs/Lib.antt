-- What is printed of an accepted triangle: how it was read, the ratios' sums, and one cell alone.
pub mod Accepted
pub mod SumsRows
pub mod OneCell
