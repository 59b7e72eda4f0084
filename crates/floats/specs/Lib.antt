-- Floats and whole numbers; what the contracts of this crate say of them; examples.
pub mod WholeNumbers
pub mod Reading
pub mod Examples
