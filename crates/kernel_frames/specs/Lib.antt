-- A block's frames, a run of a kernel's at a time. Definitions only.
pub mod Turns
