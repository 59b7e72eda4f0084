-- The laws of rows: numbers read into a list, and a line read cell by cell.
pub mod ReadLists
pub mod CellByCell
