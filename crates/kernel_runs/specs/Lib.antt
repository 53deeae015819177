-- The kernel of a degree at a run of places. Definitions only.
pub mod Runs
