-- The columns of a picture: one for each event, and after an event one for each call of the order
-- whose point is there.
use Rattle.std.specs.Prelude.{ℕ, ◌+◌, nat_lt, List, map, count_by, slice_index}
use Rattle.events.specs.declared.operation.Operation.{Operation}
use Rattle.merge_orders.specs.Merge.{point_in}

-- the points of the calls of an order; Herlihy and Wing 1990 order the calls of a linearization by
-- such points
abbrev pub order_points : List Operation → List ℕ → List ℕ
order_points calls order = map (point_in calls order) order

-- the column of an event; before it are the columns of all earlier events, and of the calls whose
-- points are before it
abbrev pub event_column : List ℕ → ℕ → ℕ
event_column points event = event + count_by (λ point. nat_lt point event) points

-- the column of the call at a place of the order; before it are the columns of the events up to its
-- point, and of the calls before it
abbrev pub mark_column : List ℕ → ℕ → ℕ
mark_column points place = slice_index points place + 1 + place
