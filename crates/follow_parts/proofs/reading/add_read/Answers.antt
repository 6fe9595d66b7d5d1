use Rattle.follow_parts.proofs.Common.{get_or, subst, arith, Operation, IsWithRead, kept_of, IsShapedPast}
use Rattle.follow_parts.proofs.ReadLemmas.{adding_goes_on, adding_ends, past_may}
use Rattle.follow_parts.proofs.reading.add_read.Goals as goal

pub add_to_past-requires-clause-rising : goal.add_to_past-requires-clause-rising
add_to_past-requires-clause-rising c =
    (past_may IsShapedPast c.args.operation.now c.args.pasts.now c.loop-place.pasts c.loop-place.place c.index-pasts-place.result
    c.requires.shaped c.loop-place.invariant (omega (arith, c.loop-place-test.true, c.loop-place.invariant.long))).0

pub loop-place-preserved : goal.loop-place-preserved
loop-place-preserved c =
    adding_goes_on c.args.operation.now c.args.pasts.now c.loop-place.pasts c.loop-place.place c.index-pasts-place.result
    c.add_to_past.new.past c.loop-place.invariant (omega (arith, c.loop-place-test.true, c.loop-place.invariant.long))
    (subst (λ (o : Operation). IsWithRead o (kept_of (get_or c.loop-place.pasts c.loop-place.place c.index-pasts-place.result))
    (kept_of c.add_to_past.new.past)) c.in_ok-copy.ensures c.in_ok-add_to_past.ensures)

pub returns : goal.returns
returns c =
    adding_ends c.args.operation.now c.args.pasts.now c.loop-place.pasts c.loop-place.place c.loop-place.invariant
    (omega (arith, c.loop-place-test.false, c.loop-place.invariant.long))
