-- Laws of a run of a kernel's frames. Assumes nothing.
pub mod Fills
pub mod Joined
