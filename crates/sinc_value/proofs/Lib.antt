-- The laws of a frame's value by a sinc. Assumes nothing.
pub mod Sums
