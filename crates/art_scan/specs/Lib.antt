pub mod Walks
pub mod Sound
pub mod Scans
