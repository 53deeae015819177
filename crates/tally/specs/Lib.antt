-- What a pass has used and made, and its bound. Definitions only.
pub mod Tally
