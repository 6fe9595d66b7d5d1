use Rattle.memo.proofs.Common.{◌≡◌, ◌∙◌, sym, ap, subst, Contents, IsRising, pairs_from, IsDifference, Kept}
use Rattle.memo.proofs.DifferenceLemmas.{pairs_from-rises}
use Rattle.memo.proofs.KeptLemmas.{IsKept-over, configuration_from-over}
use Rattle.memo.specs.contracts.form.Form.{the_view}
use Rattle.memo.proofs.form.Form.over.Goals.{After-drop-held-2}
use Rattle.memo.proofs.form.Form.over.Goals as goal

-- what a form gives, by other names
told_by : (base start put gone : Contents) (kept : Kept) → start ≡ base → put ≡ kept.put → gone ≡ kept.gone
    → pairs_from start put gone ≡ pairs_from base kept.put kept.gone
told_by base start put gone kept start_is put_is gone_is =
    ap (λ (m : Contents). pairs_from m put gone) start_is ∙ ap (λ (m : Contents). pairs_from base m gone) put_is
    ∙ ap (λ (m : Contents). pairs_from base kept.put m) gone_is

pub difference-requires-clause-pairs : goal.difference-requires-clause-pairs
difference-requires-clause-pairs c =
    let held_is =
    told_by c.args.base.now c.pairs.result.now c.deref.result.now c.deref-2.result.now c.args.self.now c.pairs.ensures.pairs
    (c.deref.ensures.value ∙ ap (λ (k : Kept). k.put) c.self.view_is) (c.deref-2.ensures.value ∙ ap (λ (k : Kept). k.gone) c.self.view_is) in
    subst IsRising (sym (c.deref-3.ensures.value ∙ c.in_ok-held.ensures ∙ held_is))
    (pairs_from-rises c.args.base.now c.args.self.now.put c.args.self.now.gone c.pairs.ensures.rising)

module _ (c : After-drop-held-2) where
  held_is : c.in_ok-held.held.items ≡ pairs_from c.args.base.now c.args.self.now.put c.args.self.now.gone
  held_is = c.in_ok-held.ensures
      ∙ told_by c.args.base.now c.pairs.result.now c.deref.result.now c.deref-2.result.now c.args.self.now c.pairs.ensures.pairs
      (c.deref.ensures.value ∙ ap (λ (k : Kept). k.put) c.self.view_is) (c.deref-2.ensures.value ∙ ap (λ (k : Kept). k.gone) c.self.view_is)

  abbrev new : Kept
  new = the_view (record {
    places = c.in_ok-copy.field-0;
    put = c.in_ok-put.field-0.put;
    gone = c.in_ok-put.field-0.gone;
    digest = c.self.inside.digest;
  })

  difference : IsDifference c.args.other.now (pairs_from c.args.base.now c.args.self.now.put c.args.self.now.gone) new.put new.gone
  difference =
      subst (λ (m : Contents). IsDifference c.args.other.now m new.put new.gone) (c.deref-3.ensures.value ∙ held_is)
      (subst (λ (m : Contents). IsDifference m c.deref-3.result.now new.put new.gone) c.pairs-2.ensures.pairs c.in_ok-put.ensures)

pub returns-clause-kept : goal.returns-clause-kept
returns-clause-kept c =
    IsKept-over c.args.base.now c.args.other.now c.args.self.now (new c) c.requires c.pairs.ensures.rising c.pairs-2.ensures.rising
    (c.in_ok-copy.ensures ∙ ap (λ (k : Kept). k.taken) c.self.view_is) (ap (λ (k : Kept). k.digest) c.self.view_is) (difference c)

pub returns-clause-is : goal.returns-clause-is
returns-clause-is c =
    configuration_from-over c.args.base.now c.args.other.now c.args.self.now (new c) c.requires c.pairs.ensures.rising c.pairs-2.ensures.rising
    (c.in_ok-copy.ensures ∙ ap (λ (k : Kept). k.taken) c.self.view_is) (ap (λ (k : Kept). k.digest) c.self.view_is) (difference c)
