use Rattle.follow_pasts.proofs.FitLemmas.{agree_fits}
use Rattle.follow_pasts.proofs.pasts.agrees.Goals as goal

pub returns-then-not-was_refused-clause-fits : goal.returns-then-not-was_refused-clause-fits
returns-then-not-was_refused-clause-fits c refused changes =
    agree_fits c.args.operation.now.call c.args.operation.now.response c.args.value c.may_be_answered.result changes c.may_be_answered.ensures
