-- Laws of construction. Assumes nothing.
pub mod Keeps
