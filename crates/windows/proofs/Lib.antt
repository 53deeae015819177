-- Laws of the cutoff. Assumes nothing.
pub mod Rows
