use Rattle.memo.proofs.Common.{◌≡◌, ◌∙◌, ◌+◌, ◌-◌, ◌%◌, ◌^◌, ap, subst, sum_by, Contents, pairs_from, IsDifference, mix_pair, Kept, with_place}
use Rattle.memo.proofs.KeptLemmas.{IsKept-anew, configuration_from-anew}
use Rattle.memo.specs.contracts.form.Form.{the_view}
use Rattle.memo.proofs.form.Form.with.Goals.{After-drop-held-2}
use Rattle.memo.proofs.form.Form.with.Goals as goal

module _ (c : After-drop-held-2) where
  abbrev new : Kept
  new = the_view (record {
    places = c.in_ok-with.field-0;
    put = c.in_ok-put.field-0.put;
    gone = c.in_ok-put.field-0.gone;
    digest = (((c.self.inside.digest + c.mix.result) % 2 ^ 64 + (2 ^ 64 - c.sum_of.result)) % 2 ^ 64 + c.sum_of-2.result) % 2 ^ 64;
  })

  taken_is : new.taken ≡ with_place c.args.self.now.taken c.args.place
  taken_is = c.in_ok-with.ensures.is ∙ ap (λ (k : Kept). with_place k.taken c.args.place) c.self.view_is

  held_is : c.in_ok-held.held.items ≡ pairs_from c.args.base.now c.args.self.now.put c.args.self.now.gone
  held_is =
      c.in_ok-held.ensures
      ∙ ap (λ (m : Contents). pairs_from m c.deref.result.now c.deref-2.result.now) c.pairs.ensures.pairs
      ∙ ap (λ (m : Contents). pairs_from c.args.base.now m c.deref-2.result.now)
      (c.deref.ensures.value ∙ ap (λ (k : Kept). k.put) c.self.view_is)
      ∙ ap (λ (m : Contents). pairs_from c.args.base.now c.args.self.now.put m)
      (c.deref-2.ensures.value ∙ ap (λ (k : Kept). k.gone) c.self.view_is)

  difference : IsDifference c.args.base.now c.args.after.now new.put new.gone
  difference =
      subst (λ (m : Contents). IsDifference c.args.base.now m new.put new.gone) c.pairs-3.ensures.pairs
      (subst (λ (m : Contents). IsDifference m c.pairs-3.result.now new.put new.gone) c.pairs-2.ensures.pairs c.in_ok-put.ensures)

  lost_is : c.sum_of.result ≡ sum_by mix_pair (pairs_from c.args.base.now c.args.self.now.put c.args.self.now.gone) % 2 ^ 64
  lost_is = c.sum_of.ensures ∙ ap (λ (m : Contents). sum_by mix_pair m % 2 ^ 64) (c.deref-3.ensures.value ∙ held_is)

  gained_is : c.sum_of-2.result ≡ sum_by mix_pair c.args.after.now % 2 ^ 64
  gained_is = c.sum_of-2.ensures ∙ ap (λ (m : Contents). sum_by mix_pair m % 2 ^ 64) c.pairs-4.ensures.pairs

  digest_is : new.digest ≡ (((c.args.self.now.digest + c.mix.result) % 2 ^ 64 + (2 ^ 64 - c.sum_of.result)) % 2 ^ 64 + c.sum_of-2.result) % 2 ^ 64
  digest_is = ap (λ (k : Kept). (((k.digest + c.mix.result) % 2 ^ 64 + (2 ^ 64 - c.sum_of.result)) % 2 ^ 64 + c.sum_of-2.result) % 2 ^ 64)
      c.self.view_is

pub returns-clause-kept : goal.returns-clause-kept
returns-clause-kept c =
    IsKept-anew c.args.base.now c.args.after.now c.args.self.now (new c) c.requires.kept c.pairs.ensures.rising c.pairs-3.ensures.rising
    c.args.place c.requires.new (taken_is c) (difference c) c.mix.result c.sum_of.result c.sum_of-2.result c.mix.ensures (lost_is c)
    (gained_is c) (digest_is c)

pub returns-clause-is : goal.returns-clause-is
returns-clause-is c =
    configuration_from-anew c.args.base.now c.args.after.now c.args.self.now (new c) c.requires.kept c.pairs.ensures.rising
    c.pairs-3.ensures.rising c.args.place c.requires.new (taken_is c) (difference c) c.mix.result c.sum_of.result c.sum_of-2.result
    c.mix.ensures (lost_is c) (gained_is c) (digest_is c)
