pub mod ErrorSinks
pub mod FileErrors
pub mod Files
