-- Laws that serve several functions, from below.
pub mod LeftToQuestion5
pub mod AllLengths
pub mod Filled
