-- The laws of texts: what a search finds, where comments begin, where lines end and how they follow.
pub mod Searches
pub mod Parts
pub mod Comments
pub mod FirstLines
pub mod LinesOfText
