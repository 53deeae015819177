-- The refusals. Definitions only.
pub mod Refusals
