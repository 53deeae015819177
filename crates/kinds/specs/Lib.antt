-- What a record resamples by. Definitions only.
pub mod Kinds
