-- A block on the front parts of larger areas: that it meets its contract, and what it lends of a muted channel. Assumes nothing.
pub mod Lengths
pub mod Fronts
pub mod Muted
