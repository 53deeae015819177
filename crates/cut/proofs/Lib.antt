-- Laws of the cut. Assumes nothing.
pub mod Front
pub mod Limits
pub mod Exact
pub mod Frames
