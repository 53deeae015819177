-- The records of a pass's calls. Definitions only.
pub mod Payloads
