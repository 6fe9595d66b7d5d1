use Rattle.follow_laws.proofs.PastLemmas.{open_changes_are_kept}
use Rattle.follow_laws.proofs.step_laws.open_changes_are_kept.Goals as goal

pub returns : goal.returns
returns c = open_changes_are_kept
