-- Windows by their names, and how many entries a table has. Definitions only.
pub mod Names
pub mod Entries
