-- The laws of a row that is handed back.
pub mod RowParts
