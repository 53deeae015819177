-- Laws of the degrees, the rows and the node rule. Assumes nothing.
pub mod Laws
pub mod Integers
pub mod Nodes
pub mod Examples
