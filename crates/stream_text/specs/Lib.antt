pub mod LineLimits
pub mod Lines
pub mod LineFaults
pub mod Cuts
pub mod LineBuffers
pub mod LineLaws
