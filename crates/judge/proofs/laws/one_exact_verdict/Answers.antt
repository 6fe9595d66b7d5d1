use Rattle.judge.proofs.VerdictLemmas.{one_verdict}
use Rattle.judge.proofs.laws.one_exact_verdict.Goals as goal

pub returns : goal.returns
returns c budget history a b is first second =
    one_verdict budget history a b c.one_list_of_segments.ensures c.one_merged_order.ensures is first second
