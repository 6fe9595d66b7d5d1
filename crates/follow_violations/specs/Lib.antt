pub mod Puts
pub mod KeyLosses
pub mod OwnParts
pub mod Laws
pub mod Collecting
