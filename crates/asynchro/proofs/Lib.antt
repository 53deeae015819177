-- Laws of the calls on a ratio state. Assumes nothing.
pub mod Ratio
pub mod Keeps
pub mod Settled
