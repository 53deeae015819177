-- The walk of salvage. Definitions only.
pub mod Salvage
