use Rattle.std.proofs.Common.{map, ap}
use Rattle.machine.proofs.OpeningLemmas.{half-more}
use Rattle.machine.proofs.opening.runners.Goals as goal

pub loop-script-preserved : goal.loop-script-preserved
loop-script-preserved c =
    rw c.in_ok-push.ensures.items
    (half-more _ _ _ _ _ _ c.loop-script.invariant (ap (map (λ script. script.items)) c.in-Some.ensures.steps.0) c.fresh_runner.ensures)
