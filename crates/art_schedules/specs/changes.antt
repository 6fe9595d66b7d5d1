-- What a change of one row makes of a tree in a table where no row is locked: the map after it, and the ways that stay.
pub mod Rows
pub mod Effects
pub mod Follows
pub mod Sayings
pub mod Courses
pub mod Written
pub mod Worked
pub mod Laws
