-- The laws of what 64 bits hold; the worked example.
pub mod Fits
pub mod Examples
