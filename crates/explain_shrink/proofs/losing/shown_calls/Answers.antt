use Rattle.explain_shrink.proofs.Common.{subst, arith, All, take_all, All-more, IsUnshown}
use Rattle.explain_shrink.proofs.losing.shown_calls.Goals as goal

pub loop-count-preserved : goal.loop-count-preserved
loop-count-preserved c =
    All-more (IsUnshown c.args.map.now c.args.budget c.args.calls.now) c.args.counts.now c.loop-count.count-index 0 c.loop-count-test.true
    c.loop-count.invariant (rw c.in-None.is at c.in_ok-rest.ensures)

pub returns : goal.returns
returns c =
    let end = c.loop-count-test.false in
    subst (All (IsUnshown c.args.map.now c.args.budget c.args.calls.now))
    (take_all c.loop-count.count-index c.args.counts.now (omega (arith, end))) c.loop-count.invariant
