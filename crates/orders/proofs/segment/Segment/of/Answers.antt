use Rattle.orders.proofs.SegmentViewLemmas.{IsSegmentView-segment_of}
use Rattle.orders.proofs.segment.Segment.of.Goals as goal

pub invariant_of-result : goal.invariant_of-result
invariant_of-result c =
    rw (
      c.in_ok-start.ensures,
      c.start.ensures.start,
      c.greatest_key-hi.ensures,
      c.least_key-lo.ensures,
      c.deref-2.ensures.value,
      c.deref.ensures.value,
      c.in_ok-calls.ensures,
      c.calls.ensures.calls,
      c.in_ok-numbers.ensures.items,
    )
    (IsSegmentView-segment_of c.args.history.now c.args.numbers.now c.calls.ensures.history c.requires.not_empty
    c.requires.rising c.requires.known)
