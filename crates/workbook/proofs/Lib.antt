-- Laws of the definitions and proofs of the statements in specs/, from below.
pub mod CellTests
pub mod Conversion
pub mod Pairs
pub mod PairLists
pub mod WholeAnswers
pub mod ProofOfDemand1
pub mod ProofOfAgreement
pub mod Demands
pub mod Examples
