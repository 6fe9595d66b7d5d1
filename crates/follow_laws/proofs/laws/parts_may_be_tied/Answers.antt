use Rattle.follow_laws.proofs.WiderLemmas.{parts_may_be_tied}
use Rattle.follow_laws.proofs.laws.parts_may_be_tied.Goals as goal

pub returns : goal.returns
returns c = parts_may_be_tied
