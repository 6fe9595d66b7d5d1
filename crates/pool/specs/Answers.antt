-- What a worker's answer says.
use Rattle.std.specs.Prelude.{ℕ, ◌<◌, List, length}
use Rattle.std.specs.List.{HoldsAt}
use Rattle.orders.specs.SegmentView.{SegmentView}
use Rattle.search.specs.Exact.{IsExactAnswer}
use Rattle.pool.specs.declared.worker.SegmentAnswer.{SegmentAnswer}

-- the answer names one of the segments, a gate was passed before its search, and the answer is
-- exact for it
pub record AnswersOneOf (WasPassed : ℕ → Type 0) (budget : ℕ) (segments : List SegmentView) (answer : SegmentAnswer) : Type 0 where
  pub one : answer.segment < length segments
  pub passed : WasPassed answer.segment
  pub exact : HoldsAt (λ s. IsExactAnswer budget s answer.found) segments answer.segment
