pub mod Standing
pub mod Closed
pub mod Mending
