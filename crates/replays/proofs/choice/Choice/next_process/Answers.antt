use Rattle.replays.proofs.Common.{length, ap, arith, slice_get, next_step_of, DoesNotGoOn}
use borrow.Author.Count.{below_more}
use Rattle.replays.proofs.RestLemmas.{none-goes-on}
use Rattle.replays.proofs.choice.Choice.next_process.Goals as goal

pub loop-process-preserved : goal.loop-process-preserved
loop-process-preserved c = (
  λ plan s shows. c.first_of-found.ensures.some plan s shows (c.loop-process.invariant.0 plan s shows),
  λ plan s shows none.
      let first = c.first_of-found.ensures.none plan s shows none in
      below_more (λ p. DoesNotGoOn s.words (next_step_of plan p (slice_get s.processes p))) c.loop-process.process
      (c.loop-process.invariant.1 plan s shows first.0) first.1,
)

pub returns-clause-some : goal.returns-clause-some
returns-clause-some c = c.loop-process.invariant.0

pub returns-clause-none : goal.returns-clause-none
returns-clause-none c = λ plan s shows few none.
    none-goes-on plan s (length c.args.self.now.processes.items) few
    (λ p below. c.loop-process.invariant.1 plan s shows none p (omega (arith, ap length c.deref-chosen-items.ensures.value)))
