use Rattle.search_choices.proofs.VainLemmas.{vain_left_out}
use Rattle.search_choices.proofs.laws.vain_calls_are_left_out.Goals as goal

pub returns : goal.returns
returns c = vain_left_out
