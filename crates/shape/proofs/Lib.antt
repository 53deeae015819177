-- What refusal 8's test tells. Assumes nothing.
pub mod Shape
