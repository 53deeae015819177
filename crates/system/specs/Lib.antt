-- Which descriptors are of opened files. Definitions only.
pub mod Opened
