-- Laws of the frames. Assumes nothing.
pub mod Frames
pub mod Run
pub mod Apart
