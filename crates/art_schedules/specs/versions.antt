-- Who holds a row and who writes it, and that a row does not change while its version does not.
pub mod Locking
pub mod Holding
pub mod Effects
pub mod Versions
pub mod Steady
pub mod Writers
pub mod Laws
