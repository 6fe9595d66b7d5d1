-- The calls of the history of a run: which process began each, the steps that began and answered it, and that they keep the map small.
pub mod Effects
pub mod FewPairs
pub mod Laws
pub mod RunCalls
