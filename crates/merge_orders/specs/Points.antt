-- Calls with their points.
use Rattle.std.specs.Prelude.{ℕ, List}
use Rattle.events.specs.declared.operation.Operation.{Operation}
use Rattle.merge_orders.specs.Merge.{point_in, point_of}
use Rattle.merge_orders.specs.declared.points.CallAtPoint.{CallAtPoint}

-- a call of an order, with its point there
abbrev pub at_point_in : List Operation → List ℕ → ℕ → CallAtPoint
at_point_in calls order n = record { point = point_in calls order n; number = n }

-- a call with its point, if each call is in one of the orders
abbrev pub at_point : List Operation → List (List ℕ) → ℕ → CallAtPoint
at_point calls orders n = record { point = point_of calls orders n; number = n }
