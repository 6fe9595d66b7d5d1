use Rattle.follow_laws.proofs.KnownLemmas.{calls_are_known}
use Rattle.follow_laws.proofs.laws.calls_are_known.Goals as goal

pub returns : goal.returns
returns c = calls_are_known
