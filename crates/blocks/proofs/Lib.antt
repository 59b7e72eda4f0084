-- The laws of a block: weights filled in, and rows read one after another.
pub mod WeightsFilled
pub mod RowsOfBlock
pub mod LinesOfBlock
pub mod BlocksRead
