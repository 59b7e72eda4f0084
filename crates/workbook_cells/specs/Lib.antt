-- What the contracts of this crate say, in the words of the crate `workbook`.
pub mod Conversion
pub mod Lent
