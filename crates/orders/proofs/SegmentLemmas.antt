-- Laws of segments: their calls and their keys.
use Rattle.orders.proofs.Common.{◌≡◌, ℕ, ◌<◌, Bool, true, false, List, length, Some, refl, sym, ap, ◌∙◌, subst, inl, inr, ⊎_elim, arith, slice_get}
use Rattle.orders.proofs.Common.{IsTrue, MatchBool, All, Contains, true≢false, cases_order, or_parts, All-contains, same_Some, slice_get_within}
use Rattle.orders.proofs.Common.{slice_get-get_or, Operation, has_number, is_completed, belongs, low_key, high_key, may_change, Contents, calls_at}
use Rattle.orders.proofs.Common.{SegmentView, IsSegment, AreSegments, Contains-at, place_of-Contains, All-from_contains, greatest_bound}
use Rattle.orders.proofs.Common.{has_number-Contains, has_number-from_Contains, least_bound, some_at, Contains-filter_map}
use Rattle.events.proofs.FilterLemmas.{AllPairs-at}
use Rattle.orders.proofs.RangeLemmas.{IsInside, IsOutside}
use Rattle.orders.proofs.PartLemmas.{GoesByKeys}

-- the numbers of a segment are those of calls
pub known-IsSegment : (start : Contents) (calls : List Operation) (segment : SegmentView) → IsSegment start calls segment
    → All (λ n. n < length calls) segment.numbers
known-IsSegment start calls segment h = All-from_contains (λ n. n < length calls) segment.numbers
    (λ n is. let found = some_at (slice_get calls n) (λ a. IsTrue (belongs a)) (((h.members n n is).0 is).0) in slice_get_within calls
    n found.0 found.1)

-- the calls of a segment are those with its numbers
pub calls-IsSegment : (start : Contents) (calls : List Operation) (segment : SegmentView) → IsSegment start calls segment
    → segment.calls ≡ calls_at calls segment.numbers
calls-IsSegment start calls segment h = ap (λ s. s.calls) h.view

-- each call of a segment is within its keys
pub IsInside-segment : (start : Contents) (calls : List Operation) (segment : SegmentView) (n : ℕ) (a : Operation)
    → IsSegment start calls segment
    → Contains segment.numbers n
    → slice_get calls n ≡ Some a
    → IsInside segment.lo segment.hi a.call
IsInside-segment start calls segment n a h is here =
    let among = Contains-filter_map (slice_get calls) segment.numbers n a is here in
    record {
      low_inside = rw (ap (λ s. s.lo) h.view) (least_bound (λ b. low_key b.call) (calls_at calls segment.numbers) a among);
      high_inside = rw (ap (λ s. s.hi) h.view) (greatest_bound (λ b. high_key b.call) (calls_at calls segment.numbers) a among);
    }

-- two segments at different places have their keys apart, so the calls of the one leave the pairs of the other
pub IsOutside-other : (start : Contents) (calls : List Operation) (segments : List SegmentView) (i j : ℕ) (s t : SegmentView)
    (n : ℕ) (a : Operation)
    → AreSegments start calls segments
    → (i ≡ j → ⊥)
    → slice_get segments i ≡ Some s → slice_get segments j ≡ Some t
    → Contains t.numbers n → slice_get calls n ≡ Some a → IsOutside s.lo s.hi a.call
IsOutside-other start calls segments i j s t n a h apart s_at t_at is here =
    let inside = IsInside-segment start calls t n a (All-contains (IsSegment start calls) segments t h.each
    (Contains-at segments j t t_at)) is here in
    ⊎_elim (λ equal. absurd (apart equal)) (λ other. ⊎_elim
    (λ before. let below = AllPairs-at (λ s t. s.hi < t.lo) segments i j s t h.by_key before s_at t_at in let low = inside.low_inside in
    inr (inr (omega arith)))
    (λ after. let below = AllPairs-at (λ s t. s.hi < t.lo) segments j i t s h.by_key after t_at s_at in let high = inside.high_inside in
    inr (inl (omega arith))) other) (cases_order i j)

-- a call that does not belong changes nothing
may_change-from_belongs : (a : Operation) → belongs a ≡ false → may_change a.call ≡ false
may_change-from_belongs a h = (or_parts (is_completed a) (may_change a.call) h).1

-- the numbers of a segment go by its keys: all other calls leave its pairs
pub GoesByKeys-segment : (start : Contents) (calls : List Operation) (segments : List SegmentView) (segment : SegmentView) (n : ℕ)
    → AreSegments start calls segments
    → Contains segments segment
    → GoesByKeys calls (has_number segment.numbers) segment.lo segment.hi n
GoesByKeys-segment start calls segments s n h s_is a here = by_test (has_number s.numbers n) refl
  where
    not_in : has_number s.numbers n ≡ false → Contains s.numbers n → ⊥
    not_in no_number is = true≢false (sym (has_number-from_Contains s.numbers n is) ∙ no_number)

    outside : has_number s.numbers n ≡ false → (b : Bool) → belongs a ≡ b → IsOutside s.lo s.hi a.call
    outside no_number false e = inl (may_change-from_belongs a e)
    outside no_number true e =
        let (j, t, within, is, holds) = h.all n (rw here e) in
        let (i, s_at) = place_of-Contains segments s s_is in
        let t_at : slice_get segments j ≡ Some t = slice_get-get_or segments j t within ∙ ap Some is in
        IsOutside-other start calls segments i j s t n a h
        (λ equal. not_in no_number
        (subst (λ u. Contains u.numbers n) (same_Some t s (sym t_at ∙ (ap (slice_get segments) (sym equal) ∙ s_at))) holds))
        s_at t_at holds here

    by_test : (b : Bool) → has_number s.numbers n ≡ b → MatchBool b (IsInside s.lo s.hi a.call) (IsOutside s.lo s.hi a.call)
    by_test true e = IsInside-segment start calls s n a (All-contains (IsSegment start calls) segments s h.each s_is)
        (has_number-Contains s.numbers n e) here
    by_test false e = outside e (belongs a) refl
