use Rattle.machine.proofs.Common.{◌≡◌, take, flat_map}
use Rattle.machine.proofs.recorded.all_events.Given as goal

abbrev pub invariant-loop-runner : goal.invariant-loop-runner
invariant-loop-runner l = l.all.items ≡ flat_map (λ r. r.log.items) (take l.runner-index l.runners)
