mod EndLemmas
pub mod FoundLemmas
pub mod NotedLemmas
pub mod WordLemmas
