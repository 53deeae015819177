-- Lent areas: a channel after the other, moving and reading in each. Definitions only.
pub mod Parts
pub mod Moves
pub mod Turns
