-- The names that most proofs of this crate cite, passed on from one place. Declares nothing.
pub use Rattle.std.proofs.Common.{Bool, List, None, Option, Some, [], ap, arith, cond, false, filter, get_or, length, map, refl, subst, sym}
pub use Rattle.std.proofs.Common.{take, true, ℕ, ⊎_elim, ◌++◌, ◌+◌, ◌<◌, ◌==◌, ◌∙◌, ◌∷◌, ◌≡◌, ◌≤◌}
pub use Rattle.std.proofs.lemmas.Bool.{cases_order, eq-eqb, false_from_ne_true, false≢true, ne_eqb}
pub use Rattle.std.proofs.lemmas.List.{append-nil}
pub use Rattle.std.proofs.lemmas.List.Elements.{All-contains, All-head, All-tail, Contains-get_or}
pub use Rattle.std.proofs.lemmas.List.Kept.{AllPairs-cons}
pub use Rattle.std.proofs.lemmas.List.Sorted.{Contains-permutation, IsPermutation-sym}
pub use Rattle.std.proofs.lemmas.Option.{same_Some, slice_get-get_or, slice_get_read}
pub use Rattle.std.specs.List.{AllZip, concat}
pub use Rattle.std.specs.Prelude.{All, AllPairs, Contains, IsPermutation, slice_get, ◌≢◌}
pub use Rattle.events.proofs.TimeLemmas.{inv_rises}
pub use Rattle.events.specs.Operations.{operations}
pub use Rattle.events.specs.Precedence.{precedes}
pub use Rattle.events.specs.declared.operation.Operation.{Operation}
pub use Rattle.events.proofs.FilterLemmas.{AllPairs-weaker, AreRelatedAs, Contains-from_filter, filter_rest}
pub use Rattle.events.proofs.Lists.{All-from_contains, AllPairs-head, AllPairs-nil, AllPairs-tail, Contains-at, Contains-cases}
pub use Rattle.events.proofs.Lists.{Contains-first, Contains-later, Contains-nil, place_of-Contains}
pub use Rattle.events.proofs.NumberLemmas.{has_number-Contains, has_number-from_Contains, slice_get-below}
pub use Rattle.events.proofs.ZipLemmas.{zip_right}
pub use Rattle.events.specs.Lists.{greatest, has_number}
pub use Rattle.map_object.specs.MapObject.{Contents}
pub use Rattle.merge_orders.specs.Merge.{IsMergedOrder, point_in, point_of}
pub use Rattle.merge_orders.specs.OrdersOfSegments.{NameCallsOnce}
pub use Rattle.merge_orders.specs.Points.{at_point, at_point_in}
pub use Rattle.merge_orders.specs.declared.points.CallAtPoint.{CallAtPoint}
pub use Rattle.orders.specs.Orders.{IsOrder, KeepsPrecedence, calls_at}
pub use Rattle.orders.proofs.LocalityLemmas.{IsOrderByNumber-from_order}
pub use Rattle.orders.proofs.SegmentLemmas.{IsInside-segment}
pub use Rattle.orders.specs.SegmentOrders.{IsOrderOf}
pub use Rattle.orders.specs.SegmentView.{SegmentView}
pub use Rattle.orders.specs.Segments.{AreSegments, IsSegment}
