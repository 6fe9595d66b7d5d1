-- A history of one call is decided at each budget of two or more.
use Rattle.judge.proofs.Common.{◌≡◌, ℕ, ◌<◌, ◌≤◌, List, ◌∷◌, ◌++◌, length, ap, arith, ◌≢◌, All-contains, Contains-append_right, Operation, Contents}
use Rattle.judge.proofs.Common.{SegmentView, IsSegment, length-distinct_below, Contains-first, ShowsUndecided}
use Rattle.std.proofs.lemmas.List.Kept.{AllPairs-from_increasing}
use Rattle.events.proofs.FilterLemmas.{AllPairs-weaker}
use Rattle.judge.proofs.ReachedLemmas.{reached_by_one_call}
use Rattle.orders.proofs.CallsAtLemmas.{length-calls_at}
use Rattle.orders.proofs.SegmentLemmas.{known-IsSegment, calls-IsSegment}

-- a segment has no more calls than the history
length-segment_le : (start : Contents) (calls : List Operation) (segment : SegmentView) → IsSegment start calls segment
    → length segment.calls ≤ length calls
length-segment_le start calls segment h =
    let known = known-IsSegment start calls segment h in
    let distinct =
    AllPairs-weaker (λ a b. a < b) (λ a b. a ≢ b) segment.numbers (λ a b a_is b_is less same. absurd (omega arith))
    (AllPairs-from_increasing segment.numbers h.rising) in
    omega (
      arith,
      ap length (calls-IsSegment start calls segment h),
      length-calls_at calls segment.numbers known,
      length-distinct_below segment.numbers (length calls) distinct known,
    )

-- a history of one call is not undecided
pub one_call-decided : (start : Contents) (budget : ℕ) (calls : List Operation) (segment : SegmentView) → length calls ≡ 1 → 2 ≤ budget
    → ShowsUndecided start budget calls segment → ⊥
one_call-decided start budget calls segment one two h =
    let is = Contains-append_right h.below (segment ∷ h.above) segment (Contains-first segment h.above) in
    let of_calls = All-contains (IsSegment start calls) (h.below ++ segment ∷ h.above) segment h.are_segments.each is in
    let few : length segment.calls ≤ 1 = omega (arith, length-segment_le start calls segment of_calls) in
    absurd (omega (arith, reached_by_one_call segment.start segment.calls budget few h.reaches))
