use Rattle.judge.proofs.Common.{IfOk-weaker, operations}
use Rattle.judge.specs.Gates.{WasPassedForEach}
use Rattle.judge.specs.Shown.{IsShown}
use Rattle.judge.proofs.workers.judge.Goals as goal

-- the segments of the cut are the history's, and the gate was passed on the way to each
pub returns-clause-passed : goal.returns-clause-passed
returns-clause-passed g c =
    let history = c.args.history.now in
    let passed : WasPassedForEach (g.G.Gate.was_passed c.args.gate.now) history =
    record {
      segments = c.in_ok-segments.segments.items;
      are_segments = c.in_ok-segments.ensures.segments;
      each = rw c.deref.ensures.value at c.in_ok-answers.ensures.passed;
    } in
    IfOk-weaker _ (IsShown history.start c.args.budget (operations history.events))
    (λ _. WasPassedForEach (g.G.Gate.was_passed c.args.gate.now) history) (λ _ _. passed) c.conclude.ensures.shown
