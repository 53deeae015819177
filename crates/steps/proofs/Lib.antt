-- Laws of the step. Assumes nothing.
pub mod Steps
