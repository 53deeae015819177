-- A block on the front parts of larger areas. Definitions only.
pub mod Lent
