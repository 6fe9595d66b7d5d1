use Rattle.follow_pasts.proofs.Common.{◌≡◌, ◌-◌, ◌∷◌, ◌++◌, [], List, refl, ap, ◌∙◌, arith, set, set-get_or, covered, Range}
use Rattle.follow_pasts.proofs.RangeLemmas.{covered_wider}
use Rattle.follow_pasts.proofs.ranges.add_range.Goals.{in-Some+else-last-range, else-last-range-via-then-last-range+else-range-last}
use Rattle.follow_pasts.proofs.ranges.add_range.Goals.{else-last-range-via-else-last-range, in_default}
use Rattle.follow_pasts.proofs.ranges.add_range.Goals as goal

pub returns-then-range-last : goal.returns-then-range-last
returns-then-range-last c =
    let tidy = c.args.tidy.now in
    covered_wider tidy.items (tidy.len - 1) c.in-Some.last.now c.args.range c.max-last.result
    (omega (arith, tidy.ok.0, c.in-Some.ensures.variant.0 refl)) c.in-Some.ensures.value c.if-last-range.true c.if-range-last.true c.max-last.ensures

pub returns : goal.returns
returns c = λ key.
    let tidy = c.args.tidy.now in
    let same : c.match-last_mut.tidy.items ≡ tidy.items =
    elim c.match-last_mut.branch [
      | in-Some+else-last-range w ↦
          let kept = ap (λ (r : Range). set tidy.items (tidy.len - 1) r) w.in-Some.ensures.value
          ∙ set-get_or tidy.items (tidy.len - 1) w.in-Some.last.now in
          elim w.else-last-range.branch [
            | else-last-range-via-then-last-range+else-range-last v ↦ rw w.tidy-is (rw v.tidy-is kept)
            | else-last-range-via-else-last-range v ↦ rw w.tidy-is (rw v.tidy-is kept)
          ]
      | in_default w ↦ cc
    ] in
    ap (λ (rs : List Range). covered rs key) (c.in_ok-push.ensures.items ∙ ap (λ (rs : List Range). rs ++ c.args.range ∷ []) same)
