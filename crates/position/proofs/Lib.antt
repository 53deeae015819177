-- Demand 3: how far the stored position can be from the exact one. Assumes nothing.
pub mod Amounts
pub mod Tests
pub mod Steps
pub mod Flat
pub mod Path
pub mod Empty
pub mod Blocks
pub mod Accepted
pub mod Keeps
pub mod Ledgers
pub mod Inside
pub mod Lasting
pub mod Drift
pub mod Signed
pub mod Example
