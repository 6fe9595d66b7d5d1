-- How far each call has come at each moment of a run, and how a schedule of a full tree decides that.
pub mod Fitting
pub mod Laws
pub mod Stories
