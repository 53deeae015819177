-- Laws of the windows' points, and of filling an area. Assumes nothing.
pub mod Fills
pub mod Ends
pub mod Points
pub mod Constants
pub mod Settled
