-- The laws of lines: a text that grows to the right in its room, a template filled byte by byte, entries one after the other,
-- the widest of several, and texts that have room.
pub mod LineTexts
pub mod Fillings
pub mod EntryTexts
pub mod Widths
pub mod Room
