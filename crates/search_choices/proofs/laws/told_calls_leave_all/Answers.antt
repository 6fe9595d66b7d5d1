use Rattle.search_choices.proofs.ToldLemmas.{told_leave_all}
use Rattle.search_choices.proofs.laws.told_calls_leave_all.Goals as goal

pub returns : goal.returns
returns c = told_leave_all
