pub mod OrdersOfSegments
pub mod Points
pub mod Laws
pub mod Merge
