-- Laws that the proofs here share, and what a reader may ask of text: what is written is read back. Assumes nothing.
pub mod Patterns
pub mod Glyphs
pub mod Runs
pub mod ReadBack
