-- The marks of a picture: one for each call of an order.
use Rattle.std.specs.Prelude.{◌≡◌, ◌≢◌, ℕ, ◌<◌, List, length, Some, IfSome, IsSomeAnd, slice_get, All, AllPairs}
use Rattle.events.specs.declared.operation.Operation.{Operation}
use Rattle.orders.specs.Orders.{calls_at, KeepsPrecedence}
use Rattle.merge_orders.specs.Merge.{point_in}
use Rattle.draw_picture.specs.declared.picture.Bar.{Bar}
use Rattle.draw_picture.specs.declared.picture.Mark.{Mark}
use Rattle.draw_picture.specs.Columns.{order_points, mark_column}

-- calls that can be marked like an order: calls of the history, each at most once, and none before
-- one that precedes it
pub record IsMarkable (calls : List Operation) (order : List ℕ) : Type 0 where
  pub known : All (λ n. n < length calls) order
  pub distinct : AllPairs (λ m n. m ≢ n) order
  pub precedence : KeepsPrecedence (calls_at calls order)

-- a mark is inside a bar: in its lane, after the invocation, and before the response if there is
-- one
pub record IsInside (mark : Mark) (bar : Bar) : Type 0 where
  pub lane : mark.lane ≡ bar.lane
  pub after : bar.from < mark.column
  pub before : IfSome bar.to (λ to. mark.column < to)

-- the mark of the call at a place of an order: at the call's point, inside its bar
pub record IsMarkAt (calls : List Operation) (order : List ℕ) (bars : List Bar) (place : ℕ) (mark : Mark) : Type 0 where
  pub number : slice_get order place ≡ Some mark.number
  pub at_place : mark.place ≡ place
  pub point : mark.point ≡ point_in calls order mark.number
  pub column : mark.column ≡ mark_column (order_points calls order) place
  pub inside : IsSomeAnd (slice_get bars mark.number) (IsInside mark)

-- the marks of an order: one for each of its calls, in its order
pub record AreMarksOf (calls : List Operation) (order : List ℕ) (bars : List Bar) (marks : List Mark) : Type 0 where
  pub one_each : length marks ≡ length order
  pub each : (place : ℕ) (mark : Mark) → slice_get marks place ≡ Some mark → IsMarkAt calls order bars place mark
  pub rising : AllPairs (λ a b. a.column < b.column) marks
