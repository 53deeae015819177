-- What a block and a reset are refused for, and the record that they leave. Definitions only.
pub mod Plan
