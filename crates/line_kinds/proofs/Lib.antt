-- The laws of a line's kind.
pub mod KindsOfLines
pub mod SameKinds
