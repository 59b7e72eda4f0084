-- Laws that serve several functions, from below.
pub mod RowsLoop
pub mod BothLists
