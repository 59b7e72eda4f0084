-- What the contracts of this crate say, in the words of the crate `method`.
pub mod MethodRead
pub mod Rows
