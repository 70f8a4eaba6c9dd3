pub mod Recoveries
pub mod Stores
pub mod Journals
pub mod Pairs
