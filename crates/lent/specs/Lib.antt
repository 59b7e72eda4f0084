-- What is lent, in the words of the crate `method`.
pub mod Triangles
