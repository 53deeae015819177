-- The index path of a block, where a frame's samples lie, and Reach. Definitions only.
pub mod Path
pub mod Places
pub mod Sites
pub mod Turns
