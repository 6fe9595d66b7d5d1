pub mod Choices
pub mod Drawings
pub mod Outcomes
