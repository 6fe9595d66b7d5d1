use Rattle.cutter.proofs.Common.{◌≡◌, length, sym, ◌∙◌, eqb-true, nil_from_length, operations}
use Rattle.cutter.proofs.WalkLemmas.{AreSegmentsBefore-more, distinct_first, known_first, some_first, AreSegments-from_before}
use Rattle.cutter.proofs.cutting.segments_of.Goals as goal

pub rising_numbers-requires : goal.rising_numbers-requires
rising_numbers-requires c = rw c.split_at.ensures.front
    (distinct_first c.args.history.now.start (operations c.args.history.now.events) c.loop-rest.rest.now c.chained_len.result
    c.loop-rest.segments.items
    c.loop-rest.invariant)

pub of-requires-clause-not_empty : goal.of-requires-clause-not_empty
of-requires-clause-not_empty c = rw c.deref.ensures.value
    (some_first c.loop-rest.rest.now c.chained_len.result c.in_ok-numbers.numbers.items c.chained_len.ensures.some
    c.chained_len.ensures.within
    (rw c.split_at.ensures.front at c.in_ok-numbers.ensures.same_numbers))

pub of-requires-clause-known : goal.of-requires-clause-known
of-requires-clause-known c = rw c.deref.ensures.value
    (known_first
    c.args.history.now.start (operations c.args.history.now.events) c.loop-rest.rest.now c.chained_len.result c.loop-rest.segments.items
    c.in_ok-numbers.numbers.items c.loop-rest.invariant
    (rw c.split_at.ensures.front at c.in_ok-numbers.ensures.same_numbers))

pub loop-rest-preserved : goal.loop-rest-preserved
loop-rest-preserved c = rw (c.split_at.ensures.back, c.in_ok-push.ensures.items, c.in_ok-of.ensures, c.deref.ensures.value)
    (AreSegmentsBefore-more
    c.args.history.now.start (operations c.args.history.now.events) c.loop-rest.rest.now c.chained_len.result c.loop-rest.segments.items
    c.in_ok-numbers.numbers.items c.loop-rest.invariant
    c.chained_len.ensures.some c.chained_len.ensures.within c.chained_len.ensures.chained c.chained_len.ensures.apart
    c.in_ok-numbers.ensures.rising
    (rw c.split_at.ensures.front at c.in_ok-numbers.ensures.same_numbers))

pub returns : goal.returns
returns c =
    let empty : length c.loop-rest.rest.now ≡ 0 =
    eqb-true (length c.loop-rest.rest.now) 0 (sym c.is_empty.ensures ∙ c.loop-rest-test.false) in
    AreSegments-from_before c.args.history.now.start (operations c.args.history.now.events) c.loop-rest.segments.items
    (rw (nil_from_length c.loop-rest.rest.now empty) at c.loop-rest.invariant)
