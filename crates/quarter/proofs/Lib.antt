-- Laws of the quarter wave. Assumes nothing.
pub mod Table
pub mod Rules
