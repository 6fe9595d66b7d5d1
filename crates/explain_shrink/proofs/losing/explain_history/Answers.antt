use Rattle.explain_shrink.proofs.Common.{sym, subst, NonePrecedesItself, InvocationsRise}
use Rattle.events.proofs.TimeLemmas.{inv_rises, NonePrecedesItself-operations}
use Rattle.explain_shrink.proofs.losing.explain_history.Goals as goal

pub explanation_at-requires-clause-rising : goal.explanation_at-requires-clause-rising
explanation_at-requires-clause-rising c = subst InvocationsRise (sym c.calls.ensures.calls) (inv_rises c.args.history.now.events)

pub explanation_at-requires-clause-apart : goal.explanation_at-requires-clause-apart
explanation_at-requires-clause-apart c =
    subst NonePrecedesItself (sym c.calls.ensures.calls) (NonePrecedesItself-operations c.args.history.now.events)
