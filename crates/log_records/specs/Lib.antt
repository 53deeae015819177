-- A record of the pass log. Definitions only.
pub mod Records
