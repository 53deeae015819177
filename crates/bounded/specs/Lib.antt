-- A text with room for so many bytes. Definitions only.
pub mod Added
