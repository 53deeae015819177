-- The quarter wave and its rules. Definitions only.
pub mod Wave
pub mod Rules
