use Rattle.follow_monitor.proofs.Common.{Put, arith, rules, IsNonDecreasingBy-from_sort_by_key}
use Rattle.follow_monitor.proofs.all_puts.by_event.Goals as goal

pub returns-clause-rising : goal.returns-clause-rising
returns-clause-rising c i j d less below =
    IsNonDecreasingBy-from_sort_by_key (λ (p : Put). p.event) _ c.in_ok-sort_by_key.ensures.sorted (λ a r q k. search rules) i j d (omega (arith, less))
    below
