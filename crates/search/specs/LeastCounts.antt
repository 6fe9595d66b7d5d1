-- How many configurations a search for the least order meets.
use Rattle.std.specs.Prelude.{◌≡◌, ◌↔◌, ℕ, ◌<◌, ◌≤◌, IsTrue, List, length, All, Contains}
use Rattle.events.specs.declared.operation.Operation.{Operation}
use Rattle.map_object.specs.MapObject.{Contents}
use Rattle.orders.specs.Orders.{IsOrder}
use Rattle.memo.specs.Fronts.{IsFront}
use Rattle.memo.specs.Configurations.{Configuration, LeadsTo}
use Rattle.search.specs.LeastOrder.{is_at_or_before}
use Rattle.memo.specs.Counts.{AreDistinct}

-- a configuration that counts: a front at or before the least order leads there; if there is no
-- order, any front
pub record IsCounted (start : Contents) (calls : List Operation) (configuration : Configuration) : Type 0 where
  pub front : List ℕ
  pub is_front : IsFront start calls front
  pub leads : LeadsTo start calls front configuration
  pub at_or_before : (order : List ℕ) → IsOrder start calls order → IsTrue (is_at_or_before front order)

-- n configurations count: they are listed, each once
pub record HasCount (start : Contents) (calls : List Operation) (n : ℕ) : Type 0 where
  pub counted : List Configuration
  pub distinct : AreDistinct counted
  pub exact : (configuration : Configuration) → Contains counted configuration ↔ IsCounted start calls configuration
  pub count : length counted ≡ n

-- at most n configurations count
abbrev pub CountIsWithin : Contents → List Operation → ℕ → Type 0
CountIsWithin start calls n = (count : ℕ) × HasCount start calls count × (count ≤ n)

-- more than n configurations count: n + 1 of them are listed
pub record CountIsAbove (start : Contents) (calls : List Operation) (n : ℕ) : Type 0 where
  pub counted : List Configuration
  pub distinct : AreDistinct counted
  pub each : All (IsCounted start calls) counted
  pub above : n < length counted
