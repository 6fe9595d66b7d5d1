use Rattle.follow_repairs.proofs.Common.{ap, ◌∙◌, arith, both_ways, places}
use Rattle.follow_repairs.proofs.LeftLemmas.{left-none, left-more, left-skip, left-all}
use Rattle.follow_repairs.proofs.windows.places_left.Goals.{then-not-has+in_ok-push, else-not-has}
use Rattle.follow_repairs.proofs.windows.places_left.Goals as goal

pub has-requires : goal.has-requires
has-requires c =
    let s = c.requires.stands in
    record { known = omega (arith, s.marked.all, c.loop-place-test.true); marks = s.marked.marks c.loop-place.place c.loop-place-test.true }

pub loop-place-init : goal.loop-place-init
loop-place-init c =
    let s = c.requires.stands in
    let path = places c.args.front.now.levels.items in (
      omega (arith, s.marked.within),
      left-none path c.new-left.result.items c.args.front.now.low c.new-left.ensures.items s.marked.below,
    )

pub loop-place-preserved : goal.loop-place-preserved
loop-place-preserved c =
    let path = places c.args.front.now.levels.items in
    let left = c.loop-place.left.items in
    let i = c.loop-place.place in
    let h = c.loop-place.invariant.1 in (
      omega (arith, c.loop-place-test.true),
      elim c.if-not-has.branch [
        | then-not-has+in_ok-push w ↦ left-more path left c.if-not-has.left.items i
            (ap (λ v. v.items) w.left-is ∙ w.in_ok-push.ensures.items) (λ has. both_ways c.has.result w.if-not-has.true (c.has.ensures.1 has)) h
        | else-not-has w ↦ left-skip path left c.if-not-has.left.items i (ap (λ v. v.items) w.left-is) (c.has.ensures.0 w.if-not-has.false) h
      ],
    )

pub returns : goal.returns
returns c =
    let path = places c.args.front.now.levels.items in
    let inv = c.loop-place.invariant in
    left-all c.args.calls.now path c.loop-place.left.items c.loop-place.place (omega (arith, c.loop-place-test.false, inv.0)) inv.1
