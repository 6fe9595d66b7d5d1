use Rattle.explain_locate.proofs.OrderLemmas.{orders_are_found}
use Rattle.explain_locate.proofs.laws.orders_are_found_where_judged.Goals as goal

pub returns : goal.returns
returns c = orders_are_found c.one_exact_verdict.ensures c.prefixes_are_histories.ensures c.one_event_goes_wrong.ensures
