use Rattle.search_choices.proofs.ReadLemmas.{reads_first}
use Rattle.search_choices.proofs.laws.reads_go_first.Goals as goal

pub returns : goal.returns
returns c = reads_first
