-- What the calls of the benchmark answer.
pub mod Shares
