pub mod Edits
pub mod Entries
pub mod Leaves
pub mod Ranges
pub mod Searching
pub mod Splits
