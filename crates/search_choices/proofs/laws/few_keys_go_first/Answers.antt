use Rattle.search_choices.proofs.FirstKeyLemmas.{few_keys_first}
use Rattle.search_choices.proofs.laws.few_keys_go_first.Goals as goal

pub returns : goal.returns
returns c = few_keys_first
