pub mod Mixes
pub mod Drawn
pub mod Workloads
pub mod Laws
