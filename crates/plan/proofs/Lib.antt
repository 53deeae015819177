-- Laws of the plan of a block and of a reset. Assumes nothing.
pub mod Planned
pub mod Keeps
