-- Orders of a segment, by the numbers that its calls have in the history.
use Rattle.std.specs.Prelude.{◌≡◌, ℕ, List, map, slice_index}
use Rattle.orders.specs.Orders.{IsOrder, IsLinearizable}
use Rattle.orders.specs.SegmentView.{SegmentView}

-- the numbers at these places of a segment
abbrev pub numbers_at : SegmentView → List ℕ → List ℕ
numbers_at segment places = map (λ place. slice_index segment.numbers place) places

-- a list of numbers is an order of the segment, from its starting pairs
abbrev pub IsOrderOf : SegmentView → List ℕ → Type 0
IsOrderOf segment order = (places : List ℕ) × (order ≡ numbers_at segment places) × IsOrder segment.start segment.calls places

-- the segment has no order
abbrev pub HasNoOrder : SegmentView → Type 0
HasNoOrder segment = IsLinearizable segment.start segment.calls → ⊥
