pub mod Sums
pub mod Sharing
pub mod Steps
