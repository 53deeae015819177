-- The points of the grid. Definitions only.
pub mod Grid
pub mod Steps
