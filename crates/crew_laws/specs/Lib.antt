pub mod Audits
pub mod Examples
pub mod Nights
