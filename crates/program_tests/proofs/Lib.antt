pub mod KeptRuns
pub mod ShelfLemmas
