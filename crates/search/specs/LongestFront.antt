-- The longest front that a search of a segment meets.
use Rattle.std.specs.Prelude.{◌≡◌, ℕ, ◌+◌, ◌≤◌, IsTrue, List, length, min, All, Contains}
use Rattle.events.specs.declared.operation.Operation.{Operation}
use Rattle.map_object.specs.MapObject.{Contents}
use Rattle.memo.specs.Fronts.{IsFront}
use Rattle.memo.specs.Configurations.{Configuration, LeadsTo}
use Rattle.memo.specs.Counts.{AreDistinct}
use Rattle.orders.specs.SegmentView.{SegmentView}
use Rattle.orders.specs.SegmentOrders.{numbers_at}
use Rattle.events.specs.Precedence.{NonePrecedesItself}
use Rattle.search.specs.LeastCounts.{IsCounted, HasCount}
use Rattle.search.specs.LeastOrder.{is_at_or_before}

-- a list of numbers is a front of the segment, from its starting pairs
abbrev pub IsFrontOf : SegmentView → List ℕ → Type 0
IsFrontOf segment front = (places : List ℕ) × (front ≡ numbers_at segment places) × IsFront segment.start segment.calls places

-- a configuration that was met in its turn, by a front: each front at or before that one leads to a
-- configuration that was met too
pub record IsMetInTurn (start : Contents) (calls : List Operation) (met : List Configuration) (configuration : Configuration) : Type 0 where
  pub front : List ℕ
  pub is_front : IsFront start calls front
  pub leads : LeadsTo start calls front configuration
  pub earlier : (other : List ℕ) (c : Configuration) → IsFront start calls other → IsTrue (is_at_or_before other front)
      → LeadsTo start calls other c
      → Contains met c

-- what a search has met at its end: configurations that count, each once and in its turn. They are
-- all that count, or one more than the budget
pub record HasMetEnough (start : Contents) (calls : List Operation) (budget : ℕ) (met : List Configuration) : Type 0 where
  pub distinct : AreDistinct met
  pub each : All (IsCounted start calls) met
  pub in_turn : All (IsMetInTurn start calls met) met
  pub enough : (count : ℕ) → HasCount start calls count → min count (budget + 1) ≤ length met
  pub few : length met ≤ budget + 1

-- no configuration that a search met has more calls taken
abbrev pub IsMostTaken : SegmentView → ℕ → ℕ → Type 0
IsMostTaken segment budget most =
    (met : List Configuration) × HasMetEnough segment.start segment.calls budget met × All (λ c. length c.taken ≤ most) met

-- the longest front that a search meets. It leads to a configuration that was met, and none that
-- was met has more calls taken. It is the least of all fronts of its length
pub record IsLongestFront (budget : ℕ) (segment : SegmentView) (front : List ℕ) : Type 0 where
  pub places : List ℕ
  pub is : front ≡ numbers_at segment places
  pub is_front : IsFront segment.start segment.calls places
  pub met : List Configuration
  pub enough : HasMetEnough segment.start segment.calls budget met
  pub reached : (c : Configuration) × Contains met c × LeadsTo segment.start segment.calls places c
  pub most : All (λ c. length c.taken ≤ length places) met
  pub least : (other : List ℕ) → IsFront segment.start segment.calls other → length other ≡ length places
      → IsTrue (is_at_or_before places other)

-- there is one longest front that a search at the budget meets
abbrev pub OneLongestFront : Type 0
OneLongestFront =
    (budget : ℕ) (segment : SegmentView) (a b : List ℕ) → NonePrecedesItself segment.calls → IsLongestFront budget segment a
    → IsLongestFront budget segment b → a ≡ b
