use Rattle.explain_locate.proofs.OneLemmas.{one_location_where_judged}
use Rattle.explain_locate.proofs.laws.one_location_where_judged.Goals as goal

pub returns : goal.returns
returns c =
    one_location_where_judged c.one_exact_verdict.ensures c.prefixes_are_histories.ensures c.locations_agree.ensures
