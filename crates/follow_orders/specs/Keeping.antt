-- A front that is kept as an order.
use Rattle.std.specs.Prelude.{List}
use Rattle.events.specs.declared.operation.Operation.{Operation}
use Rattle.follow_fronts.specs.Standing.{places, Stands, IsWhole}
use Rattle.follow_fronts.specs.declared.front.Front.{Front}
use Rattle.follow_repairs.specs.Searching.{AreCalls}
use Rattle.follow_orders.specs.Views.{StoredOrderView}

-- a kept order: a front that is an order of all calls
pub record IsKept (calls : List Operation) (front : Front) : Type 0 where
  pub are_calls : AreCalls calls
  pub stands : Stands calls front
  pub whole : IsWhole calls front

-- what callers see of it
abbrev pub view_of : List Operation → Front → StoredOrderView
view_of calls front = record { start = front.start; calls = calls; order = places front.levels.items }
