-- Laws that serve several functions, from below.
pub mod RowOutstandings
