-- Laws that the proofs here share. Assumes nothing.
pub mod Judging
