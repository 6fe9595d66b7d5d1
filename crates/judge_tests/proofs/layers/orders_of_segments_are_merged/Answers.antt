use Rattle.judge_tests.proofs.layers.orders_of_segments_are_merged.Goals as goal

pub merge-requires : goal.merge-requires
merge-requires g c = (
  c.in_ok-segments.segments.items,
  c.in_ok-segments.ensures.segments,
  rw c.deref-2.ensures.value
      (rw c.deref.ensures.value at c.in_ok-orders.ensures),
)
