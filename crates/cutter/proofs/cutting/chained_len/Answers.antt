use Rattle.cutter.proofs.Common.{◌≡◌, length, subst, arith, AreChained}
use Rattle.std.specs.Prelude.{take}
use Rattle.cutter.proofs.ChainLemmas.{IsWalked-more, AreApart-from_walk}
use Rattle.cutter.proofs.cutting.chained_len.Goals.{else-place-gt0-via-then-place-gt0+else-reach-range, else-place-gt0-via-else-place-gt0}
use Rattle.cutter.proofs.cutting.chained_len.Goals as goal

pub returns-then-reach-range-clause-apart : goal.returns-then-reach-range-clause-apart
returns-then-reach-range-clause-apart c =
    AreApart-from_walk c.args.ranges.now c.loop-place.place c.loop-place.reach _ c.requires.by_low_key c.loop-place-test.true
    c.if-reach-range.true
    c.loop-place.invariant

pub loop-place-preserved : goal.loop-place-preserved
loop-place-preserved c = rw c.max-reach.ensures
    (IsWalked-more c.args.ranges.now c.loop-place.place c.loop-place.reach _ c.requires.by_low_key c.loop-place-test.true
    (λ later. elim c.else-place-gt0.branch [
      | else-place-gt0-via-then-place-gt0+else-reach-range w ↦ w.if-reach-range.false
      | else-place-gt0-via-else-place-gt0 w ↦ absurd (omega arith)
    ]) c.loop-place.invariant)

pub returns-clause-chained : goal.returns-clause-chained
returns-clause-chained c =
    let end : c.loop-place.place ≡ length c.args.ranges.now = omega arith in
    subst (λ place. AreChained (take place c.args.ranges.now)) end c.loop-place.invariant.chained
