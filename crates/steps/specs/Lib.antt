-- The step of a ratio, and its test. Definitions only.
pub mod Steps
