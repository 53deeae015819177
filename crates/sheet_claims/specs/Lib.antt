-- The line along live calls, the sheet over logs, and the log of a history. Definitions only.
pub mod Live
pub mod Logs
pub mod Settled
