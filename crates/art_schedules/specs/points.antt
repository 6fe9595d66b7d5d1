-- Points of calls.
pub mod Laws
pub mod Points
pub mod Windows
