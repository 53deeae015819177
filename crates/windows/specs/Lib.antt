-- The cutoff of a window. Definitions only.
pub mod Cutoff
