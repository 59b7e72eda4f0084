-- Laws that serve several functions, from below.
pub mod Exposures
pub mod ReadingAnswers
