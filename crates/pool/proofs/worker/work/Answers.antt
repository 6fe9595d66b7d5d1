use Rattle.pool.proofs.Common.{rules, All-push, AnswersOneOf}
use Rattle.pool.proofs.worker.work.Goals as goal

pub loop-alloc-preserved : goal.loop-alloc-preserved
loop-alloc-preserved g c = (
  search rules,
  rw c.in_ok-push.ensures.items
      (All-push (AnswersOneOf (g.G.Gate.was_passed c.args.gate.now) c.args.budget c.args.segments.now) _ _ c.loop-alloc.invariant.1
      (record { one = c.if-segment-segments.false; passed = c.enter_and_search.ensures.passed; exact = c.in_ok-found.ensures.exact })),
)
