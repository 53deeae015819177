-- A window's points. Definitions only.
pub mod Points
pub mod Filled
pub mod Window
