-- Laws of the index path and of places. Assumes nothing.
pub mod Places
pub mod Path
pub mod Front
pub mod Bounds
pub mod Spans
pub mod Inside
pub mod Sites
pub mod Reach
pub mod Walking
