use Rattle.std.proofs.Common.{arith}
use borrow.Author.Count.{below_more}
use Rattle.follow_fronts.proofs.guessing.first_left.Goals as goal

pub loop-place-init : goal.loop-place-init
loop-place-init c = λ n lt done. c.requires.marked.below n lt

pub loop-place-preserved : goal.loop-place-preserved
loop-place-preserved c = below_more _ _ c.loop-place.invariant (c.is_missing.ensures.taken c.if-is_missing.false)

pub returns : goal.returns
returns c = λ n lt done. c.loop-place.invariant n (omega (arith, c.loop-place-test.false, lt)) done
