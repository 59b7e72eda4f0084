-- The kinds of lines.
pub mod Kinds
