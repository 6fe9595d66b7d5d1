pub mod PartCuts
pub mod Positions
