-- The walk of a scan over a tree at rest: its pairs, by rising key.
pub mod Walks
