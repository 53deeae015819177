-- Laws of the state record. Assumes nothing.
pub mod Valid
pub mod Checked
pub mod Keeps
pub mod Ends
