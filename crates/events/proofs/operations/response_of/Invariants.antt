use Rattle.events.proofs.Common.{◌≡◌, drop, response_from}
use Rattle.events.proofs.operations.response_of.Given as goal

abbrev pub invariant-loop-res : goal.invariant-loop-res
invariant-loop-res l = response_from l.process l.from (drop l.from l.events) ≡ response_from l.process l.res (drop l.res l.events)
