-- Laws of the writer.
pub mod Written
