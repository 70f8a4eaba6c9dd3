pub mod BesideLemmas
pub mod CallLemmas
pub mod CopyLemmas
pub mod MomentLemmas
pub mod LeftLemmas
pub mod MarkLemmas
pub mod NewFileLemmas
