-- Every schedule of the optimistic tree is linearizable: what fits each of its calls, and that each step keeps it.
pub mod OptimisticFits
