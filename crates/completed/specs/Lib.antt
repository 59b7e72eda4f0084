-- What stands in each cell of a completed triangle, in the words of the crate `method`.
pub mod Square
pub mod Figures
pub mod Completed
