-- An order of all calls gives each segment an order, so a segment without order refutes the history.
use Rattle.orders.proofs.Common.{◌≡◌, ℕ, ◌<◌, false, List, length, get_or, filter, sym, ap, ap₂, ◌∙◌, subst, ◌≢◌, slice_get, slice_index, All}
use Rattle.orders.proofs.Common.{Contains, All-filter, All-contains, Contains-get_or, AllPairs-filter, Operation, has_number, precedes, Contents}
use Rattle.orders.proofs.Common.{within, calls_at, IsLegalOrder, IsCompletedAt, IsOrder, IsLinearizable, SegmentView, IsSegment, AreSegments}
use Rattle.orders.proofs.Common.{All-from_contains, has_number-Contains, has_number-from_Contains, Contains-map, Contains-filter}
use Rattle.orders.proofs.Common.{Contains-from_filter, AreRelatedAs, AllPairs-filter_map, AllPairs-from_filter_map}
use Rattle.orders.proofs.CallsAtLemmas.{length-calls_at}
use Rattle.orders.specs.SegmentOrders.{IsOrderOf, HasNoOrder}
use Rattle.orders.proofs.PlaceLemmas.{at_places, place_of, places_of, All-at_places, IsLegalOrder-numbers, IsLegalOrder-places, IsCompletedAt-number}
use Rattle.orders.proofs.PlaceLemmas.{IsCompletedAt-place, Contains-place}
use Rattle.orders.proofs.PartLemmas.{IsLegal-part}
use Rattle.orders.proofs.SegmentLemmas.{known-IsSegment, calls-IsSegment, GoesByKeys-segment}

-- the pairs of a segment's keys, with which it starts
abbrev pub start_of : Contents → SegmentView → Contents
start_of start segment = within segment.lo segment.hi start

start_is : (start : Contents) (calls : List Operation) (segment : SegmentView) → IsSegment start calls segment
    → segment.start ≡ start_of start segment
start_is start calls segment h =
    ap (λ s. s.start) h.view ∙ ap₂ (λ lo hi. within lo hi start) (ap (λ s. s.lo) (sym h.view)) (ap (λ s. s.hi) (sym h.view))

-- the calls of a segment, as they are in a legal order of all, are a legal order from the pairs of
-- its keys on
IsLegalOrder-restricted : (start : Contents) (calls : List Operation) (segments : List SegmentView) (segment : SegmentView) (order : List ℕ)
    → AreSegments start calls segments
    → Contains segments segment → IsLegalOrder start calls order
    → IsLegalOrder (start_of start segment) calls (filter (has_number segment.numbers) order)
IsLegalOrder-restricted start calls segments s order are is h =
    let test = has_number s.numbers in
    let R = λ (a b : Operation). precedes b a ≡ false in
    record {
      known = All-filter test (λ n. n < length calls) order h.known;
      distinct = AllPairs-filter (λ m n. m ≢ n) test order h.distinct;
      precedence =
          AllPairs-filter_map R (slice_get calls) (filter test order)
          (AllPairs-filter (AreRelatedAs R (slice_get calls)) test order (AllPairs-from_filter_map R (slice_get calls) order h.precedence));
      legal = IsLegal-part calls test s.lo s.hi start order
          (λ k d within. GoesByKeys-segment start calls segments s (get_or order k d) are is) h.legal;
    }

-- the calls of a segment, as they are in an order of all, are an order of the segment
pub IsOrderOf-restricted : (start : Contents) (calls : List Operation) (segments : List SegmentView)
    (segment : SegmentView) (order : List ℕ)
    → AreSegments start calls segments
    → Contains segments segment → IsOrder start calls order
    → IsOrderOf segment (filter (has_number segment.numbers) order)
IsOrderOf-restricted start calls segments s order are is h =
    let test = has_number s.numbers in
    let kept = filter test order in
    let segment = All-contains (IsSegment start calls) segments s are.each is in
    let known = known-IsSegment start calls s segment in
    let its_calls = sym (calls-IsSegment start calls s segment) in
    let its_start = sym (start_is start calls s segment) in
    let (places, placed, within) =
    places_of s.numbers kept
    (All-from_contains (Contains s.numbers) kept
    (λ n in_kept. has_number-Contains s.numbers n (Contains-from_filter test order n in_kept).1)) in
    let legal_order : IsLegalOrder (start_of start s) calls (at_places s.numbers places) =
    subst (IsLegalOrder (start_of start s) calls) placed (IsLegalOrder-restricted start calls segments s order are is h.legal_order) in (
      places,
      placed,
      record {
        legal_order =
            subst (λ m. IsLegalOrder m s.calls places) its_start
            (subst (λ taken. IsLegalOrder (start_of start s) taken places) its_calls
            (IsLegalOrder-places (start_of start s) calls s.numbers places known within legal_order));
        complete = λ place completed.
            let (below, by_number) = IsCompletedAt-number calls s.numbers place known (subst (λ taken. IsCompletedAt taken place)
            (sym its_calls) completed) in
            let number = slice_index s.numbers place in
            let in_kept =
            Contains-filter test order number (h.complete number by_number)
            (has_number-from_Contains s.numbers number (Contains-get_or s.numbers place 0 below)) in
            Contains-place s.numbers places place segment.rising within below (subst (λ numbers. Contains numbers number) placed in_kept);
      },
    )

-- if some segment has no order, the history has none
pub not_linearizable-segment : (start : Contents) (calls : List Operation) (segments : List SegmentView) → AreSegments start calls segments
    → All (λ s. HasNoOrder s → IsLinearizable start calls → ⊥) segments
not_linearizable-segment start calls segments are =
    All-from_contains (λ s. HasNoOrder s → IsLinearizable start calls → ⊥) segments
    (λ s is none h. let found = IsOrderOf-restricted start calls segments s h.0 are is h.1 in none (found.0, found.2))

-- an order of a segment, by the numbers in the history
pub record IsOrderByNumber (start : Contents) (calls : List Operation) (segment : SegmentView) (order : List ℕ) : Type 0 where
  pub within : All (Contains segment.numbers) order
  pub legal_order : IsLegalOrder (start_of start segment) calls order
  pub complete : (n : ℕ) → Contains segment.numbers n → IsCompletedAt calls n → Contains order n

-- each order of a segment is one by number
pub IsOrderByNumber-from_order : (start : Contents) (calls : List Operation) (segment : SegmentView) (order : List ℕ)
    → IsSegment start calls segment
    → IsOrderOf segment order
    → IsOrderByNumber start calls segment order
IsOrderByNumber-from_order start calls s order segment (places, placed, h) =
    let known = known-IsSegment start calls s segment in
    let its_calls = calls-IsSegment start calls s segment in
    let its_legal : IsLegalOrder (start_of start s) (calls_at calls s.numbers) places =
    subst (λ taken. IsLegalOrder (start_of start s) taken places) its_calls
    (subst (λ m. IsLegalOrder m s.calls places) (start_is start calls s segment) h.legal_order) in
    let within : All (λ place. place < length s.numbers) places = rw (length-calls_at calls s.numbers known) at its_legal.known in
    record {
      within = subst (All (Contains s.numbers)) (sym placed) (All-at_places s.numbers places within);
      legal_order =
          subst (IsLegalOrder (start_of start s) calls) (sym placed)
          (IsLegalOrder-numbers (start_of start s) calls s.numbers places known segment.rising its_legal);
      complete = λ n is completed.
          let (place, below, number_is) = place_of s.numbers n is in
          let at_place : IsCompletedAt (calls_at calls s.numbers) place =
          IsCompletedAt-place calls s.numbers place known below (subst (IsCompletedAt calls) (sym number_is) completed) in
          let taken = h.complete place (subst (λ taken. IsCompletedAt taken place) (sym its_calls) at_place) in
          let among : Contains (at_places s.numbers places) (slice_index s.numbers place) =
          Contains-map (λ place. slice_index s.numbers place) places place taken in
          subst (Contains order) number_is (subst (λ numbers. Contains numbers (slice_index s.numbers place)) (sym placed) among);
    }
