-- The work of a call in the rows that it holds: what it touches, and what it does if it runs alone.
pub mod Solo
pub mod Own
pub mod Works
pub mod Ways
pub mod Laws
