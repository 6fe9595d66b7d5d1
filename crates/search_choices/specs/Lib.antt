pub mod Reads
pub mod Idle
pub mod Dead
pub mod Standing
pub mod FirstKeys
pub mod Twins
