use Rattle.memo.proofs.Common.{◌≡◌, ◌∙◌, ◌%◌, ◌^◌, ap, sum_by, Contents, mix_pair, Kept}
use Rattle.memo.proofs.KeptLemmas.{IsKept-start, configuration_from-start}
use Rattle.memo.specs.contracts.form.Form.{the_view}
use Rattle.memo.proofs.form.Form.start.Goals as goal

module _ (c : goal.After-sum_of) where
  abbrev kept : Kept
  kept = the_view (record { places = c.new.result; put = c.new-2.result; gone = c.new-3.result; digest = c.sum_of.result })

  digest : kept.digest ≡ sum_by mix_pair c.args.base.now % 2 ^ 64
  digest = c.sum_of.ensures ∙ ap (λ (m : Contents). sum_by mix_pair m % 2 ^ 64) c.pairs.ensures.pairs

pub returns-clause-kept : goal.returns-clause-kept
returns-clause-kept c =
    IsKept-start c.args.base.now (kept c) c.pairs.ensures.rising c.new.ensures c.new-2.ensures.items c.new-3.ensures.items (digest c)

pub returns-clause-is : goal.returns-clause-is
returns-clause-is c =
    configuration_from-start c.args.base.now (kept c) c.pairs.ensures.rising c.new.ensures c.new-2.ensures.items c.new-3.ensures.items (digest c)
