-- The block run and reset. Definitions only.
pub mod Block
