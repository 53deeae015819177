-- Laws that the proofs here share. Assumes nothing.
pub mod Halves
pub mod Holds
pub mod Products
pub mod Sizes
pub mod Doubles
