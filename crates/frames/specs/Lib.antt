-- The frames of a block. Definitions only.
pub mod Run
pub mod Turns
