-- A plan of changes: what its lines say. Definitions only.
pub mod Words
pub mod Places
pub mod Entries
