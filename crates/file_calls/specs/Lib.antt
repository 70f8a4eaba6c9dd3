pub mod Examples
pub mod Folders
pub mod Locks
pub mod MemoryFiles
pub mod MemoryFolders
pub mod Names
pub mod OpenFiles
