-- Laws of one channel's share. Assumes nothing.
pub mod Switched
pub mod Moves
