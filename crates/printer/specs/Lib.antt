-- Text put into a buffer, and the front of a slice. Definitions only.
pub mod Within
pub mod Put
