-- Laws of the refusals. Assumes nothing.
pub mod Ladder
pub mod Settled
