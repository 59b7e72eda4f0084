-- Numbers and amounts as text.
pub mod Writing
pub mod Examples
