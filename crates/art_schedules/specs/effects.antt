-- What the work of a call does to calm's tree in a run: nothing but at the one step that releases the row that changes.
pub mod Begins
pub mod AtWork
pub mod Outcomes
pub mod Marks
pub mod Laws
