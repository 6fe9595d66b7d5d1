-- The cursor of a search: after the calls taken, before the next one to try. Wing and Gong 1993;
-- the memo is Lowe's of 2017.
use Rattle.std.specs.Prelude.{◌≡◌, ◌↔◌, ℕ, ◌<◌, false, List, [], ◌∷◌, ◌++◌, Contains}
use Rattle.events.specs.declared.operation.Operation.{Operation}
use Rattle.map_object.specs.MapObject.{Contents}
use Rattle.orders.specs.Orders.{IsOrder}
use Rattle.memo.specs.Fronts.{IsFront}
use Rattle.memo.specs.Configurations.{Configuration, LeadsTo}
use Rattle.search.specs.LeastOrder.{is_at_or_before}
use Rattle.memo.specs.Counts.{AreDistinct}

-- a list comes before another: the other is not at or before it
abbrev pub ComesBefore : List ℕ → List ℕ → Type 0
ComesBefore xs ys = is_at_or_before ys xs ≡ false

-- the cursor of a search: the calls taken, and the next one to try
abbrev pub cursor : List ℕ → ℕ → List ℕ
cursor path next = path ++ next ∷ []

-- a configuration that the cursor has passed: a front that comes before the cursor leads there
pub record IsBehind (start : Contents) (calls : List Operation) (path : List ℕ) (next : ℕ) (configuration : Configuration) : Type 0 where
  pub front : List ℕ
  pub is_front : IsFront start calls front
  pub leads : LeadsTo start calls front configuration
  pub before : ComesBefore front (cursor path next)

-- a search is at the cursor. The calls taken are a front. The configurations that the cursor has
-- passed were visited, each once. No order comes before the cursor, except perhaps the calls taken,
-- if no call that is left was passed after them
pub record StandsAtCursor (start : Contents) (calls : List Operation) (path : List ℕ) (next : ℕ)
    (visited : List Configuration) : Type 0 where
  pub is_front : IsFront start calls path
  pub distinct : AreDistinct visited
  pub exact : (configuration : Configuration) → Contains visited configuration ↔ IsBehind start calls path next configuration
  pub first : (order : List ℕ) → IsOrder start calls order → ComesBefore order (cursor path next) → (order ≡ path)
      × ((k : ℕ) → k < next → Contains path k)
