pub mod MemoryEnd
pub mod Progress
pub mod Optional
