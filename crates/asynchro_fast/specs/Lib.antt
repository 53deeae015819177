-- The degrees, the kernels and the node rule. Definitions only.
pub mod Degrees
pub mod Kernels
pub mod Nodes
