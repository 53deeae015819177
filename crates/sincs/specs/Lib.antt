-- The table of windowed sincs. Definitions only.
pub mod Sinc
pub mod Table
