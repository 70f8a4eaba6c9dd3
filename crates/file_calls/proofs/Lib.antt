pub mod FolderLemmas
pub mod LockLemmas
pub mod NameLemmas
pub mod PlaceLemmas
