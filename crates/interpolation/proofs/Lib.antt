-- The grid's laws. Assumes nothing.
pub mod Integers
pub mod Points
pub mod Carries
pub mod Range
pub mod Product
pub mod Starts
pub mod Answers
pub mod Settled
pub mod Examples
