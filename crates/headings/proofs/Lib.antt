-- The laws of headings: the search for a heading, the count of rows, and where a row stands.
pub mod HeadingSearch
pub mod RowCounts
pub mod RowLines
