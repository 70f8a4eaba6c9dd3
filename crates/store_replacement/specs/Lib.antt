pub mod Marks
pub mod NewFiles
pub mod Openings
pub mod Replacements
