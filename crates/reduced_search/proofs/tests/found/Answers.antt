use Rattle.std.proofs.Common.{◌<◌, sym, subst}
use Rattle.std.specs.Prelude.{AllPairs}
use Rattle.events.specs.declared.operation.Operation.{Operation}
use Rattle.events.specs.Precedence.{NonePrecedesItself}
use Rattle.events.proofs.TimeLemmas.{inv_rises, NonePrecedesItself-operations}
use Rattle.reduced_search.proofs.tests.found.Goals as goal

pub search_calls-requires : goal.search_calls-requires
search_calls-requires c =
    let is = sym c.calls.ensures.calls in
    record {
      rising = subst (AllPairs (λ (a : Operation) (b : Operation). a.inv < b.inv)) is (inv_rises c.in_ok-history.history.events);
      apart = subst NonePrecedesItself is (NonePrecedesItself-operations c.in_ok-history.history.events);
    }
