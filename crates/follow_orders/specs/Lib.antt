pub mod Views
pub mod Keeping
pub mod Moving
pub mod Answers
