pub mod Limits
pub mod Answers
pub mod Known
pub mod OneCall
