-- The answers that are known so far, at the places of their segments.
use Rattle.std.specs.Prelude.{ℕ, suc, ⊤, List, [], ◌∷◌, Option, Some, IfSome, OnSome, slice_set}
use Rattle.orders.specs.SegmentView.{SegmentView}
use Rattle.search.specs.declared.found.Found.{Found}
use Rattle.search.specs.Exact.{IsExactAnswer}
use Rattle.pool.specs.declared.worker.SegmentAnswer.{SegmentAnswer}

-- the answer is stored at its segment's place
abbrev pub with_answer : List (Option Found) → SegmentAnswer → List (Option Found)
with_answer known answer = slice_set known answer.segment (Some answer.found)

-- an answer is exact if it is known
abbrev pub IsExactIfKnown : ℕ → SegmentView → Option Found → Type 0
IsExactIfKnown budget segment known = IfSome known (IsExactAnswer budget segment)

-- from this place on, a gate was passed for each segment whose answer is known
abbrev pub WerePassedIfKnown : (ℕ → Type 0) → ℕ → List (Option Found) → Type 0
WerePassedIfKnown WasPassed place [] = ⊤
WerePassedIfKnown WasPassed place (known ∷ rest) = OnSome known (WasPassed place) × WerePassedIfKnown WasPassed (suc place) rest
