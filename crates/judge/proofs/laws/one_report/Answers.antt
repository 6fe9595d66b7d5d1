use Rattle.judge.proofs.VerdictLemmas.{one_report}
use Rattle.judge.proofs.laws.one_report.Goals as goal

pub returns : goal.returns
returns c budget text a b report other first second =
    one_report c.one_history.ensures c.one_exact_verdict.ensures budget text a b report other first second
