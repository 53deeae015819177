-- Laws of the block run and of reset. Assumes nothing.
pub mod Written
pub mod Keeps
pub mod Settled
