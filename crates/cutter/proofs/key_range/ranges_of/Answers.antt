use Rattle.cutter.proofs.Common.{◌≡◌, ◌≤◌, Some, length, refl, subst, sym, arith, slice_get, false_from_ne_true, slice_get_read, low_key, high_key}
use Rattle.cutter.proofs.Common.{belongs}
use Rattle.cutter.proofs.KeyRangeLemmas.{AreRangesBelow-take, AreRangesBelow-skip, AreRanges-from_below}
use Rattle.cutter.proofs.key_range.ranges_of.Goals.{in-Some+in_ok-push, in_default}
use Rattle.cutter.proofs.key_range.ranges_of.Goals as goal

pub loop-number-preserved : goal.loop-number-preserved
loop-number-preserved c =
    let calls = c.args.calls.now in
    let i = c.loop-number.number in
    let a = c.index-calls-number.result in
    let here : slice_get calls i ≡ Some a = slice_get_read calls (length calls) i a refl c.loop-number-test.true c.index-calls-number.is in
    let in_order : low_key a.call ≤ high_key a.call =
    subst (λ a. low_key a.call ≤ high_key a.call) (sym c.index-calls-number.is) (c.requires.in_order i a c.loop-number-test.true) in
    elim c.match-range_of.branch [
      | in-Some+in_ok-push w ↦ rw (w.ranges-is, w.in_ok-push.ensures.items, w.in-Some.ensures.1)
          (AreRangesBelow-take calls i c.loop-number.ranges.items a c.loop-number.invariant here w.in-Some.ensures.0 in_order)
      | in_default w ↦ rw w.ranges-is
          (AreRangesBelow-skip calls i c.loop-number.ranges.items a c.loop-number.invariant here
          (false_from_ne_true (belongs a) w.in_default.ensures))
    ]

pub returns : goal.returns
returns c =
    let end : c.loop-number.number ≡ length c.args.calls.now = omega arith in
    AreRanges-from_below c.args.calls.now c.loop-number.ranges.items (rw end at c.loop-number.invariant)
