-- Laws of the machine's division by a unit, and of pairs stored in a list.
pub mod Quotients
pub mod StoredPairs
