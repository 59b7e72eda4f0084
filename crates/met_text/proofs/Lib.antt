-- The laws of a text that is shown byte by byte; the worked examples.
pub mod ShownTexts
pub mod Examples
