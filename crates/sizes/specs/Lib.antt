-- The bounds of the build, and the sizes. Definitions only.
pub mod Bounds
pub mod Sizes
