-- Laws that the proofs here share. Assumes nothing.
pub mod Hex
pub mod Words
pub mod Scales
pub mod Most
pub mod Cases
pub mod Parts
pub mod Examples
