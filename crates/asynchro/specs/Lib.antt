-- The calls on a ratio state: construction and settings. Definitions only.
pub mod Calls
