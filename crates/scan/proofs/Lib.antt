-- A byte's place in a list: laws for callers. Assumes nothing.
pub mod Places
