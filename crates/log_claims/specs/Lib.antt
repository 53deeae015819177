-- The listing of a log, and what is claimed of it. Definitions only.
pub mod Listing
pub mod Claims
pub mod Pieces
pub mod Parts
