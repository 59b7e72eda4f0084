-- Laws of the benchmark's calls.
pub mod InLimits
