-- Laws of floats that are whole numbers. From below: the float of a whole number, comparisons, what is told of a float, small floats rounded by a sum; then the examples.
pub mod ExactFloats
pub mod Comparisons
pub mod WholeFloats
pub mod RoundedFloats
pub mod Examples
