-- What the system's record tells, and when two facts are of one file. Definitions only.
pub mod Ended
pub mod Same
pub mod Told
