pub mod Calls
pub mod Verdicts
pub mod Streams
pub mod Handle
pub mod Follows
pub mod Values
