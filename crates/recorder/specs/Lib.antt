pub mod Records
pub mod Passes
pub mod Recorders
pub mod Closing
pub mod Answers
