-- What a rounding costs: one rounding, sums, products, quotients, comparisons, running sums; and a NaN's test. Assumes nothing.
pub mod Whole
pub mod Exact
pub mod Rounding
pub mod Sums
pub mod Products
pub mod Order
pub mod Sizes
pub mod Monotone
pub mod Running
pub mod Integers
pub mod Doubles
pub mod Nans
