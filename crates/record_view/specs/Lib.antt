pub mod ImageExamples
pub mod Reading
pub mod Records
pub mod Views
