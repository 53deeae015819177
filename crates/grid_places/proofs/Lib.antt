-- The laws of a frame's grid points. Assumes nothing.
pub mod Signs
pub mod Grid
pub mod Bounds
pub mod Inner
