use Rattle.replays.proofs.Common.{◌∙◌, slice_get, next_step_of}
use Rattle.replays.proofs.RestLemmas.{has-move, rests}
use Rattle.replays.proofs.choice.Choice.first_of.Goals as goal

pub returns-then-not-goes_on-clause-none : goal.returns-then-not-goes_on-clause-none
returns-then-not-goes_on-clause-none c = λ plan s shows none. (
  none,
  rests c.words.result.now s.words c.next_step.result (next_step_of plan c.args.process (slice_get s.processes c.args.process))
      (c.words.ensures plan s shows) (c.next_step.ensures plan s shows) (c.goes_on.ensures.none c.if-not-goes_on.true),
)

pub returns-then-is_first-clause-some : goal.returns-then-is_first-clause-some
returns-then-is_first-clause-some c = λ plan s shows found.
    has-move plan s c.args.process (λ is. c.goes_on.ensures.some c.if-not-goes_on.false (c.next_step.ensures plan s shows ∙ is))
