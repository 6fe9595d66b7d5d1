use Rattle.search_choices.proofs.choosing.by_answer.Goals as goal

pub returns : goal.returns
returns c = c.sort_unstable_by_key.ensures.permutation
