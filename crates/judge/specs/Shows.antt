-- What a verdict shows of the calls of a history, from the pairs that the map holds before the
-- first call. Orders are the linearizations of Herlihy and Wing 1990, section 2.
use Rattle.std.specs.Prelude.{◌⊎◌, ℕ, List, ◌∷◌, ◌++◌, All}
use Rattle.std.specs.List.{AllZip}
use Rattle.events.specs.declared.operation.Operation.{Operation}
use Rattle.map_object.specs.MapObject.{Contents}
use Rattle.orders.specs.Orders.{IsOrder, IsLinearizable}
use Rattle.orders.specs.SegmentView.{SegmentView}
use Rattle.orders.specs.Segments.{AreSegments}
use Rattle.orders.specs.SegmentOrders.{IsOrderOf, HasNoOrder}
use Rattle.merge_orders.specs.Merge.{IsMergedOrder}
use Rattle.memo.specs.Counts.{ReachesMoreThan}

-- the calls of the segment have an order
abbrev pub HasOrder : SegmentView → Type 0
HasOrder segment = IsLinearizable segment.start segment.calls

-- the segment has more reachable configurations than the budget
abbrev pub IsBeyond : ℕ → SegmentView → Type 0
IsBeyond budget segment = ReachesMoreThan segment.start segment.calls budget

-- no search that the budget covers finds the segment without order
abbrev pub IsUnrefuted : ℕ → SegmentView → Type 0
IsUnrefuted budget segment = HasOrder segment ⊎ IsBeyond budget segment

-- yes: an order of the whole history, with all completed and some pending calls. It keeps each
-- response before the invocations that follow it, and a sorted list that does the calls one by one
-- gives every recorded reply. It merges orders of the segments
pub record ShowsYes (start : Contents) (calls : List Operation) (order : List ℕ) : Type 0 where
  pub segments : List SegmentView
  pub orders : List (List ℕ)
  pub is_order : IsOrder start calls order
  pub are_segments : AreSegments start calls segments
  pub found : AllZip IsOrderOf segments orders
  pub merged : IsMergedOrder calls orders order

-- no: no such order exists, and the calls of the named segment have none on their own either. Each
-- segment below it has an order, or more reachable configurations than the budget
pub record ShowsNo (start : Contents) (budget : ℕ) (calls : List Operation) (segment : SegmentView) : Type 0 where
  pub below : List SegmentView
  pub above : List SegmentView
  pub no_order : IsLinearizable start calls → ⊥
  pub segment_has_none : HasNoOrder segment
  pub are_segments : AreSegments start calls (below ++ segment ∷ above)
  pub lowest : All (IsUnrefuted budget) below

-- undecided: the named segment has more reachable configurations than the budget. Each segment
-- below it has an order. Each segment above it has one too, or more reachable configurations than
-- the budget
pub record ShowsUndecided (start : Contents) (budget : ℕ) (calls : List Operation) (segment : SegmentView) : Type 0 where
  pub below : List SegmentView
  pub above : List SegmentView
  pub reaches : IsBeyond budget segment
  pub are_segments : AreSegments start calls (below ++ segment ∷ above)
  pub lowest : All HasOrder below
  pub unrefuted : All (IsUnrefuted budget) above
