-- Segments of one completed call.
use Rattle.std.specs.Prelude.{◌≡◌, ℕ, ◌≤◌, List, length}
use Rattle.events.specs.declared.operation.Operation.{Operation}
use Rattle.orders.specs.Orders.{IsCompletedAt}
use Rattle.orders.specs.SegmentView.{SegmentView}
use Rattle.search.specs.Exact.{IsExactAnswer}
use Rattle.search.specs.declared.found.Found.{Found}

-- there is one call, and it is completed
abbrev pub IsOneCompletedCall : List Operation → Type 0
IsOneCompletedCall calls = (length calls ≡ 1) × IsCompletedAt calls 0

-- the answer is exact at each budget from 2 on
abbrev pub IsExactFromTwo : SegmentView → Found → Type 0
IsExactFromTwo segment found = (budget : ℕ) → 2 ≤ budget → IsExactAnswer budget segment found
