use Rattle.std.proofs.Common.{arith, sym, ◌∙◌}
use Rattle.history_text.proofs.DataLemmas.{length_of_pair}
use Rattle.history_text.proofs.read_event.pair_of.Goals as goal

pub returns-in_default-clause-none : goal.returns-in_default-clause-none
returns-in_default-clause-none c = λ pair h.
    omega (arith, length_of_pair _ pair (sym c.in_ok-items_of.ensures.some ∙ h), c.in_default.len_below)

pub returns-in_default-2-clause-none : goal.returns-in_default-2-clause-none
returns-in_default-2-clause-none c = λ pair h.
    omega (arith, length_of_pair _ pair (sym c.in_ok-items_of.ensures.some ∙ h), c.in_default.len_at_least)
