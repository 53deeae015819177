-- The table of bench cases, what a block does, a muted channel that comes back, and a sinc's block. Definitions only.
pub mod Bench
pub mod Block
pub mod Muted
pub mod Sinc
