use Rattle.events.proofs.Common.{◌≡◌, ◌++◌, drop, operations, operations_from}
use Rattle.events.proofs.operations.operations_of.Given as goal

abbrev pub invariant-loop-inv : goal.invariant-loop-inv
invariant-loop-inv l = operations l.events ≡ l.calls.items ++ operations_from l.inv (drop l.inv l.events)
