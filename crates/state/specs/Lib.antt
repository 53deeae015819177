-- The state record and the StateRecord test. Definitions only.
pub mod Record
pub mod Checks
