-- Lines with places for numbers: proofs.
mod Marks
mod Turns
