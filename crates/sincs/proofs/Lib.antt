-- Laws of the table of sincs. Assumes nothing.
pub mod Bounds
pub mod Entries
pub mod Constants
