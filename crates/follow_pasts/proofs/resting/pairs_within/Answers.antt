use Rattle.follow_pasts.proofs.Common.{◌≡◌, ◌<◌, ℕ, sym, ap, ◌∙◌, subst, get_or, AllPairs, IfOk, option_copied, Contains-get_or, Contents, IsRising}
use Rattle.follow_pasts.proofs.TakenLemmas.{each_at, not_none, taken_rise}
use Rattle.follow_pasts.proofs.WithinLemmas.{read_next, read_end}
use Rattle.follow_pasts.proofs.resting.pairs_within.Goals.{in-Some+in_ok-push, in_default}
use Rattle.follow_pasts.proofs.resting.pairs_within.Goals as goal

pub loop-key-preserved : goal.loop-key-preserved
loop-key-preserved c =
    let keys = c.deref-key-items.result.now in
    let i = c.loop-key.key-index in
    let rising = subst (AllPairs (λ (k : ℕ) (l : ℕ). k < l)) (sym c.deref-key-items.ensures.value) c.in_ok-keys.ensures.rising in
    let each = each_at c.args.low c.args.high c.args.rest.now c.in_ok-keys.keys.items keys c.deref-key-items.ensures.value
    c.in_ok-keys.ensures.each in
    elim c.match-get.branch [
      | in-Some+in_ok-push w ↦ read_next c.args.rest.now c.loop-key.pairs.items c.match-get.pairs.items keys i w.in-Some.value.now rising
          c.loop-key-test.true (sym c.get.ensures ∙ ap (λ o. option_copied o) w.in-Some.is)
          (ap (λ v. v.items) w.pairs-is ∙ w.in_ok-push.ensures.items) c.loop-key.invariant
      | in_default w ↦ absurd (not_none _ ((each (get_or keys i 0)).0 (Contains-get_or keys i 0 c.loop-key-test.true)).2
          (sym c.get.ensures ∙ ap (λ o. option_copied o) w.in_default.is))
    ]

pub of-requires : goal.of-requires
of-requires c =
    let keys = c.deref-key-items.result.now in
    let rising = subst (AllPairs (λ (k : ℕ) (l : ℕ). k < l)) (sym c.deref-key-items.ensures.value) c.in_ok-keys.ensures.rising in
    subst (λ (m : Contents). IsRising m) (sym c.deref.ensures.value)
    (taken_rise c.loop-key.pairs.items keys c.loop-key.key-index rising c.loop-key-test.false c.loop-key.invariant.named)

pub returns : goal.returns
returns c =
    let keys = c.deref-key-items.result.now in
    let rising = subst (AllPairs (λ (k : ℕ) (l : ℕ). k < l)) (sym c.deref-key-items.ensures.value) c.in_ok-keys.ensures.rising in
    let each = each_at c.args.low c.args.high c.args.rest.now c.in_ok-keys.keys.items keys c.deref-key-items.ensures.value
    c.in_ok-keys.ensures.each in
    subst (λ (m : Contents). IfOk c.of.result (λ (pairs : Contents). pairs ≡ m))
    (c.deref.ensures.value ∙ read_end c.args.low c.args.high c.args.rest.now c.loop-key.pairs.items keys c.loop-key.key-index rising each
    c.requires.rising c.loop-key-test.false c.loop-key.invariant)
    c.of.ensures
