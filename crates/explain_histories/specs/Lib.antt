pub mod SmallHistories
pub mod Seats
pub mod Values
