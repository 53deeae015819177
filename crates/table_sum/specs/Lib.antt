-- The sum of a table. Definitions only.
pub mod Sum
