-- Laws that serve several functions.
pub mod Convertible
