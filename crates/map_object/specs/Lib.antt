pub mod Places
pub mod MapObject
pub mod Memory
