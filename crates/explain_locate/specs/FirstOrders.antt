-- An order of the events before the one at which a history goes wrong, or of all its events if it goes wrong nowhere.
use Rattle.std.specs.Prelude.{◌≡◌, ◌⊎◌, ℕ, true, List, length, Option, Some, None, is_some, option_map}
use Rattle.events.specs.HistoryView.{HistoryView}
use Rattle.events.specs.Operations.{operations}
use Rattle.memo.specs.Counts.{ReachesMoreThan}
use Rattle.orders.specs.Orders.{IsOrderOfHistory}
use Rattle.follow_monitor.specs.Prefixes.{prefix_of}
use Rattle.judge.specs.Exact.{IsExactYes}
use Rattle.explain_locate.specs.Bisections.{IsJudged, IsUndecided}
use Rattle.explain_locate.specs.Locations.{IsDecidedByJudge, IsLocated}
use Rattle.explain_locate.specs.declared.location.Location.{Location}
use Rattle.explain_locate.specs.declared.location.OrderedLocation.{OrderedLocation}
use Rattle.explain_locate.specs.declared.location.Location.TheVariants.{Yes, No, Lost, Undecided}

-- the exact verdict on the first `count` events of a history is a yes with this order
abbrev pub IsJudgedOrder : ℕ → HistoryView → ℕ → List ℕ → Type 0
IsJudgedOrder budget history count order = IsExactYes history.start budget (operations (prefix_of history count).events) order

-- more configurations of all calls of the first events are reachable than the budget
abbrev pub IsBeyondSearch : ℕ → HistoryView → ℕ → Type 0
IsBeyondSearch budget history count = ReachesMoreThan history.start (operations (prefix_of history count).events) budget

-- the first `count` events have this order: that of the exact verdict on them, unless that verdict is undecided
pub record IsFirstOrder (budget : ℕ) (history : HistoryView) (count : ℕ) (order : List ℕ) : Type 0 where
  pub is_order : IsOrderOfHistory (prefix_of history count) order
  pub chosen : IsJudgedOrder budget history count order ⊎ IsJudged IsUndecided budget history count

-- no order of the first `count` events is found: the exact verdict on them is undecided, and a search of all their calls goes beyond the budget
pub record HasNoFirstOrder (budget : ℕ) (history : HistoryView) (count : ℕ) : Type 0 where
  pub undecided : IsJudged IsUndecided budget history count
  pub beyond : IsBeyondSearch budget history count

-- what a search of all calls of a history finds, if they have an order
abbrev pub IsSearched : ℕ → HistoryView → Option (List ℕ) → Type 0
IsSearched budget history (Some order) = IsOrderOfHistory history order
IsSearched budget history None = ReachesMoreThan history.start (operations history.events) budget

-- what is found of the first `count` events
abbrev pub IsFirstFound : ℕ → HistoryView → ℕ → Option (List ℕ) → Type 0
IsFirstFound budget history count (Some order) = IsFirstOrder budget history count order
IsFirstFound budget history count None = HasNoFirstOrder budget history count

-- what is found of the events before the one that a location names: all events if it says that the history goes wrong nowhere, and none is
-- looked for if it is undecided
abbrev pub IsFoundBefore : ℕ → HistoryView → Location → Option (List ℕ) → Type 0
IsFoundBefore budget history Yes found = IsFirstFound budget history (length history.events) found
IsFoundBefore budget history (No event number) found = IsFirstFound budget history event found
IsFoundBefore budget history (Lost loss) found = IsFirstFound budget history loss.event found
IsFoundBefore budget history (Undecided event number) found = found ≡ None

-- What a location says of the history is so. What is found of the events before is so. An order is found if the judge's verdicts at the budget
-- say where the history goes wrong.
pub record IsOrdered (budget : ℕ) (history : HistoryView) (location : Location) (found : Option (List ℕ)) : Type 0 where
  pub located : IsLocated budget history location
  pub before : IsFoundBefore budget history location found
  pub there : IsDecidedByJudge budget history → is_some found ≡ true

-- the order of a location that may have one
abbrev pub order_of : OrderedLocation → Option (List ℕ)
order_of ordered = option_map (λ order. order.items) ordered.order

abbrev pub IsOrderedLocation : ℕ → HistoryView → OrderedLocation → Type 0
IsOrderedLocation budget history ordered = IsOrdered budget history ordered.location (order_of ordered)
