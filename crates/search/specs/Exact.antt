-- The exact answer of a search, and the laws that there is one, and only one.
use Rattle.std.specs.Prelude.{◌≡◌, ◌⊎◌, ◌↔◌, ℕ, ◌<◌, true, List, length, All, Contains, ⊤}
use Rattle.std.specs.List.Sorted.{IsStrictlyIncreasing}
use Rattle.events.specs.declared.operation.Operation.{Operation}
use Rattle.events.specs.Precedence.{NonePrecedesItself}
use Rattle.map_object.specs.MapObject.{Contents}
use Rattle.orders.specs.Orders.{IsCompletedAt, IsLinearizable}
use Rattle.memo.specs.Fronts.{IsFront}
use Rattle.orders.specs.SegmentView.{SegmentView}
use Rattle.orders.specs.SegmentOrders.{numbers_at, HasNoOrder}
use Rattle.search.specs.LeastOrder.{is_at_or_before, IsLeastOrder}
use Rattle.search.specs.LeastCounts.{HasCount, CountIsWithin, CountIsAbove}
use Rattle.search.specs.declared.found.Found.{Found}
use Rattle.search.specs.declared.found.Found.TheVariants.{Order, NoOrder, Spent}

-- a list of numbers is the least order of the segment
abbrev pub IsLeastOrderOf : SegmentView → List ℕ → Type 0
IsLeastOrderOf segment order = (places : List ℕ) × (order ≡ numbers_at segment places) × IsLeastOrder segment.start segment.calls places

-- at most this many configurations of the segment count
abbrev pub CountIsWithinOf : SegmentView → ℕ → Type 0
CountIsWithinOf segment budget = CountIsWithin segment.start segment.calls budget

abbrev pub CountIsAboveOf : SegmentView → ℕ → Type 0
CountIsAboveOf segment budget = CountIsAbove segment.start segment.calls budget

-- the exact answer: the least order, or that there is no order, if the count is within the budget;
-- otherwise that the budget is spent
abbrev pub IsExactAnswer : ℕ → SegmentView → Found → Type 0
IsExactAnswer budget segment (Order order) = IsLeastOrderOf segment order.items × CountIsWithinOf segment budget
IsExactAnswer budget segment NoOrder = HasNoOrder segment × CountIsWithinOf segment budget
IsExactAnswer budget segment Spent = CountIsAboveOf segment budget

-- two answers say the same
abbrev pub AreSameAnswer : Found → Found → Type 0
AreSameAnswer (Order a) (Order b) = a.items ≡ b.items
AreSameAnswer NoOrder NoOrder = ⊤
AreSameAnswer Spent Spent = ⊤
AreSameAnswer a b = ⊥

-- one answer only is exact
abbrev pub OneExactAnswer : Type 0
OneExactAnswer =
    (budget : ℕ) (segment : SegmentView) (a b : Found) → IsExactAnswer budget segment a → IsExactAnswer budget segment b
    → AreSameAnswer a b

-- calls, none of which precedes itself, have a least order or no order
abbrev pub LeastOrderOrNone : Type 0
LeastOrderOrNone =
    (start : Contents) (calls : List Operation) → NonePrecedesItself calls
    → ((order : List ℕ) × IsLeastOrder start calls order) ⊎ (IsLinearizable start calls → ⊥)

-- calls, none of which precedes itself, have a count
abbrev pub EachHasCount : Type 0
EachHasCount = (start : Contents) (calls : List Operation) → NonePrecedesItself calls → (n : ℕ) × HasCount start calls n

-- the least front that contains all completed calls
pub record IsLeastWholeFront (start : Contents) (calls : List Operation) (order : List ℕ) : Type 0 where
  pub is_front : IsFront start calls order
  pub complete : (n : ℕ) → IsCompletedAt calls n → Contains order n
  pub least : (other : List ℕ) → IsFront start calls other → ((n : ℕ) → IsCompletedAt calls n → Contains other n)
      → is_at_or_before order other ≡ true

-- the least order is the least front that contains all completed calls
abbrev pub LeastOrderIsByFronts : Type 0
LeastOrderIsByFronts =
    (start : Contents) (calls : List Operation) (order : List ℕ) → NonePrecedesItself calls
    → IsLeastOrder start calls order ↔ IsLeastWholeFront start calls order

-- lists of places compare as the lists of the numbers there
abbrev pub PlacesCompareAsNumbers : Type 0
PlacesCompareAsNumbers =
    (segment : SegmentView) (xs ys : List ℕ) → IsStrictlyIncreasing segment.numbers → All (λ n. n < length segment.numbers) xs
    → All (λ n. n < length segment.numbers) ys → is_at_or_before (numbers_at segment xs) (numbers_at segment ys) ≡ is_at_or_before xs ys
