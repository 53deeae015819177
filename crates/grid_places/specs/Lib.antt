-- Where the samples of a frame's grid points lie. Definitions only.
pub mod Spots
pub mod Turns
