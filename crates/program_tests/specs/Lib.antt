pub mod Keeping
pub mod Shelves
pub mod Zeros
