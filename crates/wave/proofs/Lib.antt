-- Laws of the wave. Assumes nothing.
pub mod Places
pub mod Quarters
pub mod Lines
pub mod Carried
pub mod Sides
pub mod Between
