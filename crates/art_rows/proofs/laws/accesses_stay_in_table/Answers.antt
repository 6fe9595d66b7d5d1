use Rattle.art_rows.proofs.AccessLemmas.{act-stays}
use Rattle.art_rows.proofs.laws.accesses_stay_in_table.Goals as goal

pub returns : goal.returns
returns c = act-stays
