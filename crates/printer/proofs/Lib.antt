-- Laws that the proofs here share, and what a reader may ask: a number that was put is read back. Assumes nothing.
pub mod Room
pub mod Pastes
pub mod Texts
pub mod Samples
pub mod Decimals
pub mod ReadBack
