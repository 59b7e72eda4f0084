-- The meaning of ticket 1 of document 02, "Cells from the workbook". Read from the top; no file below holds a proof.
pub mod Cells
pub mod Workbook
pub mod Pairs
pub mod Questions
pub mod Answers
pub mod Demand1
pub mod Agreement
pub mod Examples
