use Rattle.explain_locate.proofs.Common.{◌<◌, List, sym, subst, AllPairs, Operation, NonePrecedesItself, inv_rises, NonePrecedesItself-operations}
use Rattle.explain_locate.proofs.ordering.searched_order.Goals as goal

pub search_calls-requires-clause-rising : goal.search_calls-requires-clause-rising
search_calls-requires-clause-rising c =
    subst (λ (calls : List Operation). AllPairs (λ (a b : Operation). a.inv < b.inv) calls) (sym c.calls.ensures.calls)
    (inv_rises c.args.history.now.events)

pub search_calls-requires-clause-apart : goal.search_calls-requires-clause-apart
search_calls-requires-clause-apart c =
    subst NonePrecedesItself (sym c.calls.ensures.calls) (NonePrecedesItself-operations c.args.history.now.events)
