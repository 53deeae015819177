-- What the proofs cite.
pub mod Sums
