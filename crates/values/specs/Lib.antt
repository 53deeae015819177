-- A double's decimal. Definitions only.
pub mod Rounded
pub mod Texts
