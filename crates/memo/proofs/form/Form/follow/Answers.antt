use Rattle.memo.proofs.Common.{◌≡◌, ◌∙◌, ℕ, ◌+◌, ◌-◌, ◌%◌, ◌^◌, ◌<◌, Option, Some, ap, sym, rules, Contents, IsRising, value_at, with_value}
use Rattle.memo.proofs.Common.{value_put, value_gone, value_from, Kept, configuration_from, changed, after_one, with_place}
use Rattle.memo.proofs.DifferenceLemmas.{pairs_from-rises}
use Rattle.memo.proofs.KeptLemmas.{IsKept-unchanged, IsKept-changed, configuration_from-changed}
use Rattle.memo.proofs.ValueLemmas.{value_at-own, value_at-other, with_value-rises}
use Rattle.memo.proofs.form.Form.follow.Goals as goal

-- the call changed nothing
pub returns-in_default-clause-kept : goal.returns-in_default-clause-kept
returns-in_default-clause-kept c =
    IsKept-unchanged c.args.base.now c.args.before.now c.requires.kept c.args.place c.requires.new _
    (c.in_ok-self-inside.ensures.is ∙ ap (λ (k : Kept). with_place k.taken c.args.place) c.before-2.view_is) c.mix.result c.mix.ensures
    (c.in_ok-write_copy.ensures ∙ c.deref.ensures.value ∙ ap (λ (k : Kept). k.put) c.before-2.view_is)
    (c.in_ok-write_copy-2.ensures ∙ c.deref-in_default.ensures.value ∙ ap (λ (k : Kept). k.gone) c.before-2.view_is)
    (ap (λ (k : Kept). (k.digest + c.mix.result) % 2 ^ 64) c.before-2.view_is)

-- the call changed the value of a key
module _ (c : goal.After-self-2-1) where
  abbrev key : ℕ
  key = c.in-Some.change.key

  abbrev value : Option ℕ
  value = c.in-Some.change.value

  abbrev held : Contents
  held = (configuration_from c.args.base.now c.args.before.now).pairs

  rises : IsRising (with_value key value held)
  rises = with_value-rises key held (pairs_from-rises c.args.base.now c.args.before.now.put c.args.before.now.gone c.value-first.ensures.rising) value

  was_is : c.value_from-was.result ≡ value_from c.value-first.result (value_at c.args.before.now.put key) (value_at c.args.before.now.gone key)
  was_is =
      c.value_from-was.ensures
      ∙ ap (λ v. value_from c.value-first.result v c.value_at-2.result)
      (c.value_at.ensures ∙ ap (λ (m : Contents). value_at m key) c.deref-2.ensures.value
      ∙ ap (λ (k : Kept). value_at k.put key) c.before-2.view_is)
      ∙ ap (value_from c.value-first.result (value_at c.args.before.now.put key))
      (c.value_at-2.ensures ∙ ap (λ (m : Contents). value_at m key) c.deref-3.ensures.value
      ∙ ap (λ (k : Kept). value_at k.gone key) c.before-2.view_is)

  put_is : c.write_with_value.new.room.items ≡ with_value key (value_put c.value-first.result value) c.args.before.now.put
  put_is =
      c.in_ok-write_with_value.ensures
      ∙ ap (with_value key c.value_put.result) (c.deref-4.ensures.value ∙ ap (λ (k : Kept). k.put) c.before-2.view_is)
      ∙ ap (λ v. with_value key v c.args.before.now.put) c.value_put.ensures

  gone_is : c.write_with_value-2.new.room.items ≡ with_value key (value_gone c.value-first.result value) c.args.before.now.gone
  gone_is =
      c.in_ok-write_with_value-2.ensures
      ∙ ap (with_value key c.value_gone.result) (c.deref-5.ensures.value ∙ ap (λ (k : Kept). k.gone) c.before-2.view_is)
      ∙ ap (λ v. with_value key v c.args.before.now.gone) c.value_gone.ensures

  small : c.mix_value.result < 2 ^ 64
  small = search rules

pub returns-clause-kept : goal.returns-clause-kept
returns-clause-kept c =
    IsKept-changed c.args.base.now c.args.before.now c.requires.kept c.args.place c.requires.new _
    (c.in_ok-self-inside.ensures.is ∙ ap (λ (k : Kept). with_place k.taken c.args.place) c.before-2.view_is) c.mix.result c.mix.ensures
    c.value-first.ensures.rising (key c) (with_value (key c) (value c) (held c)) (rises c)
    (λ k other. value_at-other (key c) (held c) k other (value c)) c.value-first.result c.value_from-was.result (value c)
    c.value-first.ensures.value (was_is c) (sym (value_at-own (key c) (held c) (value c))) (put_is c) (gone_is c)
    c.mix_value.result c.mix_value-2.result c.mix_value.ensures c.mix_value-2.ensures (small c)
    (ap (λ (k : Kept). (((k.digest + c.mix.result) % 2 ^ 64 + (2 ^ 64 - c.mix_value.result)) % 2 ^ 64 + c.mix_value-2.result) % 2 ^ 64)
    c.before-2.view_is)

pub returns-clause-is : goal.returns-clause-is
returns-clause-is c =
    configuration_from-changed c.args.base.now c.args.before.now c.requires.kept c.args.place c.requires.new _
    (c.in_ok-self-inside.ensures.is ∙ ap (λ (k : Kept). with_place k.taken c.args.place) c.before-2.view_is) c.mix.result c.mix.ensures
    c.value-first.ensures.rising (key c) (with_value (key c) (value c) (held c)) (rises c)
    (λ k other. value_at-other (key c) (held c) k other (value c)) c.value-first.result c.value_from-was.result (value c)
    c.value-first.ensures.value (was_is c) (sym (value_at-own (key c) (held c) (value c))) (put_is c) (gone_is c)
    c.mix_value.result c.mix_value-2.result c.mix_value.ensures c.mix_value-2.ensures (small c)
    (ap (λ (k : Kept). (((k.digest + c.mix.result) % 2 ^ 64 + (2 ^ 64 - c.mix_value.result)) % 2 ^ 64 + c.mix_value-2.result) % 2 ^ 64)
    c.before-2.view_is)
    ∙ ap (λ change. after_one (configuration_from c.args.base.now c.args.before.now) c.args.place (changed change (held c))) (sym c.in-Some.is)
