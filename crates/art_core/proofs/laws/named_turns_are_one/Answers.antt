use Rattle.art_core.proofs.NamedTurnLemmas.{one-list}
use Rattle.art_core.proofs.laws.named_turns_are_one.Goals as goal

pub returns : goal.returns
returns c = one-list
