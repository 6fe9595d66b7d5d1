-- Orders of the segments name each call once at most.
use Rattle.merge_orders.proofs.Common.{ℕ, List, Contents, operations, NameCallsOnce}
use Rattle.events.specs.declared.event.Event.{Event}
use Rattle.events.specs.Histories.{AreHistoryEvents}
use Rattle.merge_orders.proofs.DisjointLemmas.{AreDisjoint-from_segments}
use Rattle.merge_orders.proofs.MergeLemmas.{known-orders, distinct-orders}
use Rattle.orders.proofs.SegmentViewLemmas.{keys_in_order-operations}
use Rattle.merge_orders.specs.OrdersOfSegments.{AreOrdersOfSegments}

-- orders of the segments of a history name its calls once
pub NameCallsOnce-from_segments : (start : Contents) (events : List Event) (orders : List (List ℕ)) → AreHistoryEvents events
    → AreOrdersOfSegments start (operations events) orders
    → NameCallsOnce (operations events) orders
NameCallsOnce-from_segments start events orders history (segments, are, zip) = record {
  known = known-orders start (operations events) segments orders are zip;
  distinct = distinct-orders start (operations events) segments orders are zip;
  disjoint = AreDisjoint-from_segments start (operations events) segments orders (keys_in_order-operations events history) are zip;
}
