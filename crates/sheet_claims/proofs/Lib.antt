-- What is shown of the sheet. Assumes nothing.
pub mod Multiples
pub mod Values
pub mod Ledgers
pub mod Room
pub mod GoesOn
pub mod Totals
pub mod Rows
pub mod Payloads
pub mod Alone
pub mod Histories
pub mod Settled
