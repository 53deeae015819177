-- What a double is worth, and the words for what a rounding costs. Definitions only.
pub mod Whole
pub mod Exact
pub mod Rounding
pub mod Running
pub mod Integers
pub mod Doubles
pub mod Samples
