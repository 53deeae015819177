-- Positions of 192 fraction bits. Definitions only.
pub mod Positions
pub mod Fields
