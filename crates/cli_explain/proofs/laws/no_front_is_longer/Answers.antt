use Rattle.cli_explain.proofs.LongestLemmas.{no_front_is_longer}
use Rattle.cli_explain.proofs.laws.no_front_is_longer.Goals as goal

pub returns : goal.returns
returns c = no_front_is_longer
