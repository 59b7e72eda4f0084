-- Laws of lists. From below: their parts, stores one after another, places filled from the left.
pub mod Parts
pub mod Stored
pub mod Places
