-- The samples that are written. Definitions only.
pub mod Pieces
