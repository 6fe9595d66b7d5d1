-- Every schedule under lock coupling is linearizable: what fits each of its calls, and that each step keeps it.
pub mod CoupledFits
pub mod KeptScans
pub mod Linear
pub mod ScanFits
