pub mod Reported
pub mod External
pub mod Writers
pub mod Missed
pub mod Laws
