use Rattle.running.proofs.Common.{[], ap, subst, sym, ◌∙◌, Kept, first_view, NumbersRise}
use Rattle.atomic_table.specs.Table.{opening}
use Rattle.running.proofs.EndLemmas.{opens}
use Rattle.running.proofs.RisingLemmas.{all-idle-rises}
use Rattle.running.proofs.shared_core.SharedCore.open.Goals as goal

pub of_words-requires : goal.of_words-requires
of_words-requires c =
    subst (λ words. Kept c.args.setup (opening words [] (first_view c.args.setup)))
    (sym (c.as_slice.ensures.value ∙ c.in_ok-words.ensures)) (opens c.args.setup)

pub invariant_of-result-2-clause-rising : goal.invariant_of-result-2-clause-rising
invariant_of-result-2-clause-rising c = subst NumbersRise (sym (ap (λ z. z.0.view) c.in_ok-table.ensures.4)) (all-idle-rises c.args.setup)
