pub mod Numbers
pub mod Holdings
pub mod Hands
