-- Laws that serve several functions, from below.
pub mod CellYears
pub mod UnseenCells
pub mod WholeCells
