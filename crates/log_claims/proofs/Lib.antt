-- What is shown of records and of salvage.
pub mod Local
pub mod ReadBack
pub mod Walks
pub mod Choice
pub mod Origins
pub mod Copies
pub mod Parts
pub mod Examples
pub mod Settled
