-- What the words of a row say after they were written.
pub mod Stored
pub mod Keys
pub mod Laws
