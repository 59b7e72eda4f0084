-- The lines of a completed triangle.
pub mod CompletedRows
