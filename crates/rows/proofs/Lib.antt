-- Laws of the rows. Assumes nothing.
pub mod Laws
pub mod Signs
