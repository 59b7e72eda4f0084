-- The laws of a share: its exact remainder, its answer, the whole of it.
pub mod ExactRemainder
pub mod Answers
pub mod WholeShare
