use Rattle.follow_pasts.proofs.Common.{◌<◌, ℕ, ap, sym, ◌∙◌, subst, IsSome, AllPairs, IsRising, ArePairsOf}
use Rattle.follow_pasts.proofs.TakenLemmas.{taken_next, has_value, not_none, each_at, of_taken, taken_rise, taken_end}
use Rattle.follow_pasts.proofs.uniting.take_range.Goals.{in-Some+in_ok-push, in_default}
use Rattle.follow_pasts.proofs.uniting.take_range.Goals as goal

pub loop-key-preserved : goal.loop-key-preserved
loop-key-preserved c =
    let keys = c.deref-key-items.result.now in
    let i = c.loop-key.key-index in
    let rising = subst (AllPairs (λ (k : ℕ) (l : ℕ). k < l)) (sym c.deref-key-items.ensures.value) c.in_ok-keys.ensures.rising in
    let each = each_at c.args.low c.args.high c.args.rest.now c.in_ok-keys.keys.items keys c.deref-key-items.ensures.value
    c.in_ok-keys.ensures.each in
    elim c.match-remove.branch [
      | in-Some+in_ok-push w ↦ taken_next c.args.rest.now c.loop-key.rest c.remove.new.self c.loop-key.pairs.items c.match-remove.pairs.items keys i
          w.in-Some.value c.remove.result rising c.loop-key-test.true c.remove.ensures.was w.in-Some.is c.remove.ensures.removed c.remove.ensures.rising
          (ap (λ v. v.items) w.pairs-is ∙ w.in_ok-push.ensures.items) c.loop-key.invariant
      | in_default w ↦ absurd (not_none c.remove.result
          (subst IsSome (sym c.remove.ensures.was)
          (has_value c.args.low c.args.high c.args.rest.now c.loop-key.rest c.loop-key.pairs.items keys i rising each c.loop-key-test.true
          c.loop-key.invariant))
          w.in_default.is)
    ]

pub of-requires : goal.of-requires
of-requires c =
    let keys = c.deref-key-items.result.now in
    let rising = subst (AllPairs (λ (k : ℕ) (l : ℕ). k < l)) (sym c.deref-key-items.ensures.value) c.in_ok-keys.ensures.rising in
    subst IsRising (sym c.deref.ensures.value)
    (taken_rise c.loop-key.pairs.items keys c.loop-key.key-index rising c.loop-key-test.false c.loop-key.invariant.named)

pub returns : goal.returns
returns c =
    let keys = c.deref-key-items.result.now in
    let rising = subst (AllPairs (λ (k : ℕ) (l : ℕ). k < l)) (sym c.deref-key-items.ensures.value) c.in_ok-keys.ensures.rising in
    let each = each_at c.args.low c.args.high c.args.rest.now c.in_ok-keys.keys.items keys c.deref-key-items.ensures.value
    c.in_ok-keys.ensures.each in
    of_taken c.of.result c.deref.result.now (ArePairsOf c.args.low c.args.high c.args.rest.now c.loop-key.rest) c.of.ensures
    (subst (ArePairsOf c.args.low c.args.high c.args.rest.now c.loop-key.rest) (sym c.deref.ensures.value)
    (taken_end c.args.low c.args.high c.args.rest.now c.loop-key.rest c.loop-key.pairs.items keys c.loop-key.key-index rising each
    c.requires.rising c.loop-key-test.false c.loop-key.invariant))
