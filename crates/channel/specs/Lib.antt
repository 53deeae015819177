-- One channel's share of an area: moving and reading; the mask. Definitions only.
pub mod Mask
pub mod Moves
