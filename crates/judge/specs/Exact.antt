-- The exact verdict: one function of the history and the budget.
use Rattle.std.specs.Prelude.{◌≡◌, ◌⊎◌, ℕ, List, ◌∷◌, ◌++◌, All}
use Rattle.std.specs.List.{AllZip}
use Rattle.events.specs.declared.operation.Operation.{Operation}
use Rattle.map_object.specs.MapObject.{Contents}
use Rattle.orders.specs.SegmentView.{SegmentView}
use Rattle.orders.specs.Segments.{AreSegments}
use Rattle.orders.specs.SegmentOrders.{HasNoOrder}
use Rattle.merge_orders.specs.Merge.{IsMergedOrder}
use Rattle.search.specs.Exact.{IsLeastOrderOf, CountIsWithinOf, CountIsAboveOf}
use Rattle.judge.specs.declared.verdict.Verdict.{Verdict}
use Rattle.judge.specs.declared.verdict.Verdict.TheVariants.{Yes, No, Undecided}

-- this is the least order of the segment, and at most as many of its configurations count as the
-- budget
abbrev pub IsOrderedBy : ℕ → SegmentView → List ℕ → Type 0
IsOrderedBy budget segment order = IsLeastOrderOf segment order × CountIsWithinOf segment budget

-- the segment has an order, and at most as many of its configurations count as the budget
abbrev pub IsOrdered : ℕ → SegmentView → Type 0
IsOrdered budget segment = (order : List ℕ) × IsOrderedBy budget segment order

-- the segment has no order, and at most as many of its configurations count as the budget
abbrev pub IsRefuted : ℕ → SegmentView → Type 0
IsRefuted budget segment = HasNoOrder segment × CountIsWithinOf segment budget

-- more of its configurations count than the budget
abbrev pub IsSpent : ℕ → SegmentView → Type 0
IsSpent budget segment = CountIsAboveOf segment budget

-- the segment is not refuted within the budget
abbrev pub IsOrderedOrSpent : ℕ → SegmentView → Type 0
IsOrderedOrSpent budget segment = IsOrdered budget segment ⊎ IsSpent budget segment

-- yes: each segment has an order within the budget, and the order of the verdict merges the least
-- orders of all segments
pub record IsExactYes (start : Contents) (budget : ℕ) (calls : List Operation) (order : List ℕ) : Type 0 where
  pub segments : List SegmentView
  pub orders : List (List ℕ)
  pub are_segments : AreSegments start calls segments
  pub ordered : AllZip (IsOrderedBy budget) segments orders
  pub merged : IsMergedOrder calls orders order

-- no: the named segment is the lowest that is refuted within the budget
pub record IsExactNo (start : Contents) (budget : ℕ) (calls : List Operation) (segment : SegmentView) : Type 0 where
  pub below : List SegmentView
  pub above : List SegmentView
  pub are_segments : AreSegments start calls (below ++ segment ∷ above)
  pub refuted : IsRefuted budget segment
  pub lowest : All (IsOrderedOrSpent budget) below

-- undecided: the named segment is the lowest that is spent, and no segment is refuted within the
-- budget
pub record IsExactUndecided (start : Contents) (budget : ℕ) (calls : List Operation) (segment : SegmentView) : Type 0 where
  pub below : List SegmentView
  pub above : List SegmentView
  pub are_segments : AreSegments start calls (below ++ segment ∷ above)
  pub spent : IsSpent budget segment
  pub lowest : All (IsOrdered budget) below
  pub unrefuted : All (IsOrderedOrSpent budget) above

-- the exact verdict on the calls at the budget
abbrev pub IsExactVerdict : Contents → ℕ → List Operation → Verdict → Type 0
IsExactVerdict start budget calls (Yes order) = IsExactYes start budget calls order.items
IsExactVerdict start budget calls (No segment) = IsExactNo start budget calls segment
IsExactVerdict start budget calls (Undecided segment) = IsExactUndecided start budget calls segment

-- two verdicts say the same
abbrev pub AreSameVerdict : Verdict → Verdict → Type 0
AreSameVerdict (Yes a) (Yes b) = a.items ≡ b.items
AreSameVerdict (No a) (No b) = a ≡ b
AreSameVerdict (Undecided a) (Undecided b) = a ≡ b
AreSameVerdict a b = ⊥
