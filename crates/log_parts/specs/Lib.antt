-- How the walk moves on. Definitions only.
pub mod Walk
pub mod Turn
