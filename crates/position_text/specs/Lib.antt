-- Positions and lengths as text. Definitions only.
pub mod Texts
