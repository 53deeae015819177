-- Which frames of a block belong to the input. Definitions only.
pub mod Cut
pub mod Positions
