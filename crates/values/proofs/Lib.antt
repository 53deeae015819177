-- Laws that the proofs here share. Assumes nothing.
pub mod Scales
pub mod Kept
pub mod Joins
pub mod Lengths
pub mod Cases
pub mod Wholes
pub mod Examples
pub mod Meaning
