use Rattle.cli_draw.proofs.choice.few_shown.Goals as goal

pub returns : goal.returns
returns c = rw c.deref.ensures.value at c.in_ok-places.ensures
