-- What an insert that runs alone leaves in a row: a byte more, a pair, a row of the next kind.
pub mod Writes
pub mod Laws
