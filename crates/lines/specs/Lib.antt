-- A line of the sheet. Definitions only.
pub mod Lines
pub mod Steps
