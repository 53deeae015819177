-- Numbers as words. Definitions only.
pub mod Numbers
