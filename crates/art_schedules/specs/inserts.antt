-- Inserts that run alone on a table at rest: what they leave is at rest again, and means the map with the key put.
pub mod Settled
pub mod Laws
