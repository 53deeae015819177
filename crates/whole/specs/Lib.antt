-- Whole numbers out of doubles, worked out by the port. Definitions only.
pub mod Rounded
pub mod Numbers
pub mod Small
