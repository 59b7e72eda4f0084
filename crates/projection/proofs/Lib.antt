-- The laws of a projected year.
pub mod Years
