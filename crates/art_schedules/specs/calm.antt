-- The words of the two full trees, where each locked or obsolete row is as it was before.
pub mod Calm
pub mod Changes
pub mod Laws
