-- The lines of the table of reserves.
pub mod Totals
pub mod ReserveRows
