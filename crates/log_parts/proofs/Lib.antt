-- What the proofs cite.
pub mod Fronts
pub mod Turns
