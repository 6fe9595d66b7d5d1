pub mod Played
pub mod Rest
pub mod Drawn
pub mod Turns
