use Rattle.follow_fronts.proofs.Common.{refl, arith, IsCompletedAt-below, IsOrder-from_front, places}
use borrow.Author.Count.{below_more}
use Rattle.follow_fronts.proofs.guessing.is_whole.Goals as goal

pub loop-place-init : goal.loop-place-init
loop-place-init c = λ n lt done. c.requires.marked.below n lt

pub loop-place-preserved : goal.loop-place-preserved
loop-place-preserved c = below_more _ _ c.loop-place.invariant (c.is_missing.ensures.taken c.if-is_missing.false)

pub returns-then-is_missing : goal.returns-then-is_missing
returns-then-is_missing c =
    let missing = c.is_missing.ensures.missing c.if-is_missing.true in
    (λ no. (cc), λ whole. absurd (missing.1 (whole.complete c.loop-place.place missing.0)))

pub returns : goal.returns
returns c = (
  λ yes. IsOrder-from_front c.args.front.now.start c.args.calls.now (places c.args.front.now.levels.items) c.requires.is_front
      (λ n done. let lt = IsCompletedAt-below c.args.calls.now n done in
      c.loop-place.invariant n (omega (arith, c.loop-place-test.false, lt)) done),
  λ whole. refl,
)
