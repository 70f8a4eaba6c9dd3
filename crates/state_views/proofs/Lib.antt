pub mod Adding
pub mod Drawing
pub mod EntryTexts
pub mod SeenRows
pub mod StateTrees
pub mod TreeLemmas
pub mod WalkLemmas
