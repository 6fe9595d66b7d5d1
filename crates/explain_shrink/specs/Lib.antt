pub mod Tells
pub mod Overwriting
pub mod Rest
pub mod Relaxed
pub mod Laws
pub mod Explained
