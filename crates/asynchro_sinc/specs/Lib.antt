-- The sinc side: blends and weights. Definitions only.
pub mod Blends
