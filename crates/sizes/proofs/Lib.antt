-- Laws of the sizes. Assumes nothing.
pub mod Constants
pub mod Truncated
pub mod Start
pub mod Read
pub mod Delay
