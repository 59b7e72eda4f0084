-- What a line holds, how a template is filled, the entries of a table's line, and worked lines.
pub mod Line
pub mod Counts
pub mod Filling
pub mod Entries
pub mod Columns
pub mod WorkedLines
