-- The numbers of the questions, the room of every sentence, and the worked examples.
pub mod Numbers
pub mod SentenceRoom
pub mod Examples
