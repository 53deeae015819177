-- A frame's value by a sinc. Definitions only.
pub mod Values
