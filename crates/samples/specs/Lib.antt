-- Samples as bytes, and their places in an area. Definitions only.
pub mod Samples
pub mod Frames
pub mod Counts
