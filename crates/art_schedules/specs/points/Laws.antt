-- Laws of points.
use Rattle.std.specs.Prelude.{◌≡◌, ℕ, List, Option, AllPairs}
use Rattle.events.specs.declared.operation.Operation.{Operation}
use Rattle.events.specs.Precedence.{NonePrecedesItself}
use Rattle.map_object.specs.MapObject.{Contents}
use Rattle.orders.specs.Orders.{after_calls, calls_at, IsOrder, IsLinearizable}
use Rattle.art_schedules.specs.points.Points.{IsNotAfter, PointsKeepPrecedence, HasPoints}
use Rattle.art_schedules.specs.points.Windows.{WindowsKeepPrecedence, AreWithinWindows}

-- calls with points are linearizable
abbrev pub PointsGiveOrders : Type 0
PointsGiveOrders = (start : Contents) (calls : List Operation) → HasPoints start calls → IsLinearizable start calls

-- by rising point they are in an order, and it leaves the pairs after the last point
abbrev pub PointsOrderCalls : Type 0
PointsOrderCalls = (start : Contents) (calls : List Operation) (h : HasPoints start calls)
    → (order : List ℕ) × IsOrder start calls order × AllPairs (IsNotAfter h.points) order
    × (after_calls start (calls_at calls order) ≡ h.pairs h.bound)

-- linearizable calls have points, where none precedes itself, as in each history
abbrev pub OrdersGivePoints : Type 0
OrdersGivePoints = (start : Contents) (calls : List Operation) → NonePrecedesItself calls → IsLinearizable start calls
    → HasPoints start calls

-- points within windows keep precedence, where the windows do
abbrev pub WindowsGivePrecedence : Type 0
WindowsGivePrecedence = (calls : List Operation) (points : ℕ → Option ℕ) (first last : ℕ → ℕ) → WindowsKeepPrecedence calls first last
    → AreWithinWindows calls points first last
    → PointsKeepPrecedence calls points
