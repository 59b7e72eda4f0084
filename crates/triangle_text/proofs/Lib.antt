-- The laws of a triangle's text: its mark, its blocks, its lists, and every line of it.
pub mod ReadBack
pub mod Mark
pub mod LinesUnder
pub mod Given
pub mod BlocksUnder
pub mod ListsRead
pub mod EveryLine
pub mod Examples
