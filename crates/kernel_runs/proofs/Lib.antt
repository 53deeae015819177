-- Laws of a run of one kernel. Assumes nothing.
pub mod Runs
