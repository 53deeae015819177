-- What the proofs cite.
pub mod Sums
pub mod Places
