-- The laws of a text that is written from the right; the worked examples.
pub mod TextsBefore
pub mod GroupedDigits
pub mod TextLengths
pub mod Examples
