-- Laws that the proofs here share, and what a reader may ask: a word's number is rounded once, to the nearest double. Assumes nothing.
pub mod Words
pub mod Rounding
pub mod Closest
