-- Laws of the kinds. Assumes nothing.
pub mod Laws
