-- Laws that the proofs here share, and what a reader may ask: each sample stands in its place, and bytes are read back. Assumes nothing.
pub mod Bytes
pub mod Loops
pub mod Order
pub mod Places
pub mod Products
pub mod Taken
