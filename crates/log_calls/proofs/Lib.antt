-- What the proofs cite.
pub mod Fronts
