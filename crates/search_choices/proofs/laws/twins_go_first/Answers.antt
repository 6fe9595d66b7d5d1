use Rattle.search_choices.proofs.TwinLemmas.{twins_first}
use Rattle.search_choices.proofs.laws.twins_go_first.Goals as goal

pub returns : goal.returns
returns c = twins_first
