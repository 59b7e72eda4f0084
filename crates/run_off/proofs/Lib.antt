-- Laws that serve several functions, from below.
pub mod ProjectedYears
pub mod RowAnswers
pub mod ReadTriangles
