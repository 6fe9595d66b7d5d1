-- The one moment of a validated scan, and of a checked get: then nothing that it read changes.
pub mod Times
pub mod Attempts
pub mod RowReplies
pub mod Gets
pub mod LastRows
pub mod Reads
