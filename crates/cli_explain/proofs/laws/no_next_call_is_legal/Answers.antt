use Rattle.cli_explain.proofs.StuckLemmas.{no_next_call_is_legal}
use Rattle.cli_explain.proofs.laws.no_next_call_is_legal.Goals as goal

pub returns : goal.returns
returns c = no_next_call_is_legal c.ranges_suffice.ensures
