pub mod KeyRanges
pub mod Laws
