-- Lines with places for numbers. Definitions only.
pub mod Forms
