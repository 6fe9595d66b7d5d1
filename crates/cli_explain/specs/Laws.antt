-- Laws of how far an order of a few calls gets.
use Rattle.std.specs.Prelude.{◌≡◌, ℕ, ◌≤◌, true, List, length, Contains}
use Rattle.events.specs.HistoryView.{HistoryView}
use Rattle.events.specs.declared.operation.Operation.{Operation}
use Rattle.events.specs.Precedence.{NonePrecedesItself, belongs}
use Rattle.map_object.specs.MapObject.{Contents}
use Rattle.orders.specs.Orders.{calls_at, after_calls, IsLegalCall}
use Rattle.memo.specs.Counts.{ReachesMoreThan}
use Rattle.memo.specs.Fronts.{IsFront}
use Rattle.orders.specs.SegmentOrders.{HasNoOrder}
use Rattle.orders.specs.SegmentView.{SegmentView}
use Rattle.call_effects.specs.TimeCuts.{InvocationsRise}
use Rattle.search.specs.LongestFront.{IsLongestFront}
use Rattle.cli_explain.specs.Fronts.{next_of}
use Rattle.explain_histories.specs.SmallHistories.{IsSmallHistory}
use Rattle.cli_explain.specs.Answers.{IsFrontOf}

-- unless more configurations are reachable than the budget, no front is longer than the longest
-- that a search meets
abbrev pub NoFrontIsLonger : Type 0
NoFrontIsLonger =
    (budget : ℕ) (segment : SegmentView) (front other : List ℕ) → NonePrecedesItself segment.calls → HasNoOrder segment
    → (ReachesMoreThan segment.start segment.calls budget → ⊥) → IsLongestFront budget segment front
    → IsFront segment.start segment.calls other → length other ≤ length front

-- after that front of a few calls, no call that is named as next can come: the map would answer it
-- otherwise
abbrev pub NoNextCallIsLegal : Type 0
NoNextCallIsLegal =
    (budget : ℕ) (start : Contents) (calls : List Operation) (history : HistoryView) (front : List ℕ) (a : Operation) → InvocationsRise calls
    → IsSmallHistory start calls history → (h : IsFrontOf budget history front)
    → (ReachesMoreThan h.segment.start h.segment.calls budget → ⊥) → Contains (next_of (calls_at calls front) calls) a
    → belongs a ≡ true → IsLegalCall (after_calls start (calls_at calls front)) a.call a.response → ⊥
