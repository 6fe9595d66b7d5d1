-- A front of a segment can be marked as an order of the history would be.
use Rattle.draw_picture.proofs.Common.{◌≡◌, ℕ, List, ◌∷◌, ◌++◌, sym, ap, subst, All-contains, Contains-append_right, Operation, All-from_contains}
use Rattle.draw_picture.proofs.Common.{Contains-first, Verdict, IsMarkable}
use Rattle.std.specs.Prelude.{◌<◌, length}
use Rattle.map_object.specs.MapObject.{Contents}
use Rattle.orders.specs.Orders.{IsLegalOrder, calls_at}
use Rattle.orders.proofs.PlaceLemmas.{IsLegalOrder-numbers}
use Rattle.memo.proofs.FrontLemmas.{IsLegalOrder-from_front}
use Rattle.orders.specs.SegmentView.{SegmentView}
use Rattle.orders.specs.Segments.{IsSegment, AreSegments}
use Rattle.orders.proofs.BelongingLemmas.{BelongsAt-below}
use Rattle.search.specs.LongestFront.{IsFrontOf}
use Rattle.judge.specs.declared.verdict.Verdict.TheVariants.{Yes, No, Undecided}
use Rattle.judge.specs.Shown.{IsShown}
use Rattle.draw_picture.specs.Fronts.{IsFrontShown}
use Rattle.draw_picture.specs.Pictures.{marked}

-- a legal order of calls can be marked
IsMarkable-from_legal : (start : Contents) (calls : List Operation) (order : List ℕ) → IsLegalOrder start calls order
    → IsMarkable calls order
IsMarkable-from_legal start calls order h = record { known = h.known; distinct = h.distinct; precedence = h.precedence }

-- a front of a segment can be marked
IsMarkable-from_front : (start : Contents) (calls : List Operation) (segment : SegmentView) (front : List ℕ) → IsSegment start calls segment
    → IsFrontOf segment front → IsMarkable calls front
IsMarkable-from_front start calls segment front h (places, is, is_front) =
    let numbers = segment.numbers in
    let known = All-from_contains (λ n. n < length calls) numbers (λ n here. BelongsAt-below calls n ((h.members n n here).0 here).0) in
    let same : segment.calls ≡ calls_at calls numbers = ap (λ (s : SegmentView). s.calls) h.view in
    let legal = subst (λ cs. IsLegalOrder segment.start cs places) same
    (IsLegalOrder-from_front segment.start segment.calls places is_front) in
    subst (IsMarkable calls) (sym is) (IsMarkable-from_legal segment.start calls _ (IsLegalOrder-numbers segment.start calls numbers places
    known h.rising legal))

-- the segment in the midst of others
segment-named : (start : Contents) (calls : List Operation) (below above : List SegmentView) (segment : SegmentView)
    → AreSegments start calls (below ++ segment ∷ above) → IsSegment start calls segment
segment-named start calls below above segment h =
    All-contains (IsSegment start calls) (below ++ segment ∷ above) segment h.each
    (Contains-append_right below (segment ∷ above) segment (Contains-first segment above))

-- what is marked of a verdict can be marked
pub IsMarkable-from_verdict : (start : Contents) (budget : ℕ) (calls : List Operation) (verdict : Verdict) (front : List ℕ)
    → IsShown start budget calls verdict
    → IsFrontShown budget verdict front → IsMarkable calls (marked verdict front)
IsMarkable-from_verdict start budget calls (Yes order) front shown is =
    IsMarkable-from_legal start calls order.items shown.is_order.legal_order
IsMarkable-from_verdict start budget calls (No segment) front shown is =
    IsMarkable-from_front start calls segment front (segment-named start calls shown.below shown.above segment shown.are_segments)
    (is.places, is.is, is.is_front)
IsMarkable-from_verdict start budget calls (Undecided segment) front shown is =
    IsMarkable-from_front start calls segment front (segment-named start calls shown.below shown.above segment shown.are_segments)
    (is.places, is.is, is.is_front)
