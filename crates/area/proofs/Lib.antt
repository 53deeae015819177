-- Laws of lent areas. Assumes nothing.
pub mod Parts
pub mod Parted
pub mod Moves
