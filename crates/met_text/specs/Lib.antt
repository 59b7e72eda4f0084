-- The text that was met where a fault is, and how it is shown.
pub mod ShownText
pub mod Met
pub mod Examples
