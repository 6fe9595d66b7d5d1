use Rattle.pool.proofs.Common.{◌≡◌, [], arith, nil_from_length, into_iter_items}
use Rattle.pool.proofs.KnownLemmas.{next_is_put}
use Rattle.pool.proofs.known.in_place.Goals as goal

pub loop-segment-preserved : goal.loop-segment-preserved
loop-segment-preserved c = next_is_put c.loop-segment.invariant c.in-Some.ensures.steps.0

pub loop-segment-preserved-in-Some : goal.loop-segment-preserved-in-Some
loop-segment-preserved-in-Some c = next_is_put c.loop-segment.invariant c.in-Some.ensures.steps.0

pub loop-segment-preserved-in-Some-2 : goal.loop-segment-preserved-in-Some-2
loop-segment-preserved-in-Some-2 c = next_is_put c.loop-segment.invariant c.in-Some.ensures.steps.0

pub returns : goal.returns
returns c =
    let none : into_iter_items c.loop-segment.segment-iterator ≡ [] =
    nil_from_length _ (omega (arith, c.in-None.ensures.steps.0, c.loop-segment.segment-iterator.rest.ok.0)) in
    rw none at c.loop-segment.invariant.put
