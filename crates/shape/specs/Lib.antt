-- The shape of what a block is lent. Definitions only.
pub mod Shape
