pub mod Counts
pub mod FileDisks
pub mod Left
