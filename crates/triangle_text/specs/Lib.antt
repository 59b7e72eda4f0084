-- What a triangle's text holds, by docs/FORMAT.md: the lists that a call lends, or the first fault of the text.
pub mod Reading
pub mod EveryLine
pub mod Examples
