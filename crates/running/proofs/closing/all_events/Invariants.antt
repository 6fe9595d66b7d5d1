use Rattle.running.proofs.Common.{◌≡◌, take, flat_map, Run}
use Rattle.running.proofs.closing.all_events.Given as goal

abbrev pub invariant-loop-runner : goal.invariant-loop-runner
invariant-loop-runner l = l.all.items ≡ flat_map (λ (r : Run). r.1.log.items) (take l.runner-index l.runners)
