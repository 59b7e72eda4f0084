-- What the headings of a triangle's text say, and where they stand.
pub mod Places
