-- A byte's place in a list. Definitions only.
pub mod Bytes
