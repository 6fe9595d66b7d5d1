-- Laws of the points of calls and of the merged order.
use Rattle.std.specs.Prelude.{◌≡◌, ◌≢◌, ℕ, List, AllPairs, Contains}
use Rattle.events.specs.declared.operation.Operation.{Operation}
use Rattle.events.specs.HistoryView.{HistoryView}
use Rattle.events.specs.Histories.{IsHistory}
use Rattle.events.specs.Operations.{operations}
use Rattle.merge_orders.specs.Merge.{point_of, IsMergedOrder}
use Rattle.merge_orders.specs.OrdersOfSegments.{AreOrdersOfSegments}

-- a call of one order and a call of another have different points
abbrev pub ShareNoPoint : List Operation → List (List ℕ) → Type 0
ShareNoPoint calls orders = AllPairs (λ order other. (m n : ℕ) → Contains order m → Contains other n → point_of calls orders m ≢ point_of
    calls orders n) orders

-- no two segments of a history share a point, whatever orders they have
abbrev pub SegmentsShareNoPoint : Type 0
SegmentsShareNoPoint =
    (history : HistoryView) (orders : List (List ℕ)) → IsHistory history
    → AreOrdersOfSegments history.start (operations history.events) orders
    → ShareNoPoint (operations history.events) orders

-- orders of the segments of a history have one merged order only
abbrev pub HasOneMergedOrder : Type 0
HasOneMergedOrder =
    (history : HistoryView) (orders : List (List ℕ)) (a b : List ℕ) → IsHistory history
    → AreOrdersOfSegments history.start (operations history.events) orders
    → IsMergedOrder (operations history.events) orders a → IsMergedOrder (operations history.events) orders b → a ≡ b
