-- The questions about a ratio state. Definitions only.
pub mod Questions
