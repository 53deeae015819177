-- What the code works out is what the definitions say; what these say of numbers. Assumes nothing.
pub mod Held
pub mod Divisions
pub mod Units
pub mod Sizes
pub mod Fields
pub mod Fraction
pub mod Steps
pub mod Signs
pub mod Values
pub mod Splits
pub mod Counts
pub mod Casts
pub mod Small
pub mod Examples
