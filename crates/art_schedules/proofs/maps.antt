pub mod LengthLemmas
pub mod ClockLemmas
pub mod SerialMapLemmas
pub mod StartEndLemmas
