-- The laws of the checks of a line.
pub mod LineChecks
