use Rattle.search.proofs.OneFrontLemmas.{one_longest_front}
use Rattle.search.proofs.laws.one_longest_front.Goals as goal

pub returns : goal.returns
returns c = one_longest_front
