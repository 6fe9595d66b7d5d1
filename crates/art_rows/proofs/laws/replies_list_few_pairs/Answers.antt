use Rattle.art_rows.proofs.AccessLemmas.{act-small}
use Rattle.art_rows.proofs.laws.replies_list_few_pairs.Goals as goal

pub returns : goal.returns
returns c = act-small
