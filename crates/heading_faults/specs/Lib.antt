-- The first fault of the headings of a text, and of rows that stand under none.
pub mod Faults
