-- A plan of changes: laws that the proofs here share. Assumes nothing.
pub mod Runs
pub mod Lines
