-- Histories of calls, the exact and the stored position, and demand 3's bound. Definitions only.
pub mod History
pub mod Position
