use Rattle.follow_monitor.proofs.Common.{ArePairsOf, ◌≡◌, ◌+◌, ◌∷◌, ◌++◌, take, drop, get_or, arith, subst, sym, ◌∙◌, take_more, get_or_default}
use Rattle.events.proofs.Places.{parts_at}
use Rattle.events.proofs.StartLemmas.{is_above-true, is_above-All}
use Rattle.follow_monitor.proofs.PairLemmas.{pairs_push, pairs_next}
use Rattle.follow_monitor.proofs.forms.are_pairs_of.Goals.{then-pair-low-via-then-pair-low, then-pair-low-via-else-pair-low+then-high-pair}
use Rattle.follow_monitor.proofs.forms.are_pairs_of.Goals.{then-pair-low-via-else-pair-low+else-high-pair+then-not-is_above}
use Rattle.follow_monitor.proofs.forms.are_pairs_of.Goals as goal

pub loop-place-preserved : goal.loop-place-preserved
loop-place-preserved c =
    let pairs = c.args.pairs.now in
    let place = c.loop-place.place in
    rw (take_more pairs place (0, 0) c.loop-place-test.true)
    (pairs_push c.args.low c.args.high (take place pairs) (get_or pairs place (0, 0)) c.loop-place.invariant (omega arith) (omega arith)
    (is_above-All (take place pairs) (get_or pairs place (0, 0)).0 (sym c.is_above.ensures ∙ c.if-not-is_above.false)))

pub returns-then-pair-low : goal.returns-then-pair-low
returns-then-pair-low c = (
  λ wrong. cc,
  λ h.
      let pairs = c.args.pairs.now in
      let place = c.loop-place.place in
      let parts : pairs ≡ take place pairs ++ get_or pairs place (0, 0) ∷ drop (place + 1) pairs =
      parts_at pairs place (get_or pairs place (0, 0)) c.loop-place-test.true (get_or_default pairs place (0, 0) _ c.loop-place-test.true) in
      let next = pairs_next c.args.low c.args.high (take place pairs) (drop (place + 1) pairs) (get_or pairs place (0, 0))
      (subst (ArePairsOf c.args.low c.args.high) parts h) in
      elim c.then-pair-low.branch [
        | then-pair-low-via-then-pair-low w ↦ absurd (omega (arith, next.0))
        | then-pair-low-via-else-pair-low+then-high-pair w ↦ absurd (omega (arith, next.1))
        | then-pair-low-via-else-pair-low+else-high-pair+then-not-is_above w ↦ sym w.if-not-is_above.true ∙ w.is_above.ensures ∙ is_above-true (take place pairs) (get_or pairs place (0, 0)).0 next.2
      ],
)
