-- The samples of a block of a file. Definitions only.
pub mod Blocks
