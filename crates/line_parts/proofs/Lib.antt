-- The laws of a line: separators, the spaces around a text, fields and words.
pub mod Separators
pub mod Trimmed
pub mod Fields
pub mod WordsOfLine
