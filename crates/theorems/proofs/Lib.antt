-- The headline claims, a file each, and the laws that only they use: Each, Places, Grids, Areas, Indices and Rising. Assumes nothing.
pub mod Bench
pub mod Nodes
pub mod Cubics
mod Each
mod Places
mod Grids
mod Areas
mod Indices
mod Rising
pub mod Block
pub mod Muted
pub mod Sinc
pub mod Reach
pub mod Refused
pub mod RefusedSettings
pub mod Apart
pub mod Blind
pub mod Settled
pub mod Lasting
pub mod Steps
pub mod StepsStay
pub mod Drift
pub mod Kept
pub mod Waves
pub mod Tables
