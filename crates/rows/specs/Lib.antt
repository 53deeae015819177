-- The rows of the two kernels that have them. Definitions only.
pub mod Rows
pub mod Turns
