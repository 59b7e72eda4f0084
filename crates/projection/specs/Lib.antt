-- What the function of this crate asks and answers.
pub mod Year
