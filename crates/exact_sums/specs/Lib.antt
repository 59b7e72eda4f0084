-- What 64 bits hold.
pub mod Exact
pub mod Examples
