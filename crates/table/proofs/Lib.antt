-- What the proofs cite.
pub mod Names
pub mod Tables
