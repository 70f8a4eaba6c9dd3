pub mod Begun
pub mod Checkpoints
pub mod Kept
pub mod Migrating
pub mod Views
pub mod Readings
