-- Orders that can be merged.
use Rattle.std.specs.Prelude.{◌≢◌, ℕ, ◌<◌, List, length, All, AllPairs, Contains}
use Rattle.std.specs.List.{AllZip}
use Rattle.events.specs.declared.operation.Operation.{Operation}
use Rattle.map_object.specs.MapObject.{Contents}
use Rattle.orders.specs.SegmentView.{SegmentView}
use Rattle.orders.specs.Segments.{AreSegments}
use Rattle.orders.specs.SegmentOrders.{IsOrderOf}

-- one order for each segment of the calls, by rising key; no order if there is no segment
abbrev pub AreOrdersOfSegments : Contents → List Operation → List (List ℕ) → Type 0
AreOrdersOfSegments start calls orders = (segments : List SegmentView) × AreSegments start calls segments × AllZip IsOrderOf segments orders

-- the orders name only calls, each at most once, and no call is in two of them
pub record NameCallsOnce (calls : List Operation) (orders : List (List ℕ)) : Type 0 where
  pub known : All (λ order. All (λ n. n < length calls) order) orders
  pub distinct : All (AllPairs (λ m n. m ≢ n)) orders
  pub disjoint : AllPairs (λ order other. (n : ℕ) → Contains order n → Contains other n → ⊥) orders
