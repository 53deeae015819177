-- What the proofs cite.
pub mod Steps
