pub mod Adding
pub mod Naming
pub mod Planning
pub mod Growing
pub mod Hearing
pub mod Rounding
