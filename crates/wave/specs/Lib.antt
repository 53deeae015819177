-- The wave carried on to every whole number of steps, and the cosine and sine by it. Definitions only.
pub mod Carried
pub mod Cosine
pub mod Turns
pub mod Between
