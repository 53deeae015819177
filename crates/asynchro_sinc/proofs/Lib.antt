-- Laws of the blends' answers. Assumes nothing.
pub mod Said
