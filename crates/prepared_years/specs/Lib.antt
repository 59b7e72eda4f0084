-- What the functions of this crate ask and answer.
pub mod Sums
pub mod Prepared
pub mod PreparedTriangles
