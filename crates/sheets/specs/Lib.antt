-- The sheet over logs. Definitions only.
pub mod Sheet
pub mod Steps
