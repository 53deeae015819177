-- Numbers and doubles as text. Definitions only.
pub mod Digits
pub mod Words
pub mod Areas
