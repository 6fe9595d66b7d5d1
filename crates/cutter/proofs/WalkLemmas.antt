-- The walk over the ranges of a history's calls: each chain of ranges is the next segment.
use Rattle.cutter.proofs.Common.{◌≡◌, ℕ, ◌<◌, ◌≤◌, List, [], ◌∷◌, ◌++◌, length, get_or, map, take, drop, refl, sym, ap, ◌∙◌, subst, inl, inr, ⊎_elim}
use Rattle.cutter.proofs.Common.{append_assoc, arith, ◌≢◌, ◌⊎◌, slice_get, All, Any, AllPairs, Contains, IsPermutation, IsStrictlyIncreasing}
use Rattle.cutter.proofs.Common.{take-append-drop, length-take-le, length-map, All-head, All-tail, All-append, All-push, All-map, All-take}
use Rattle.cutter.proofs.Common.{All-weaker, All-contains, Contains-get_or, Contains-append_left, Contains-append_right, Contains-append_cases}
use Rattle.cutter.proofs.Common.{IsPermutation-sym, All-permutation, Contains-permutation, length_permutation, same_Some, slice_get_within, Operation}
use Rattle.cutter.proofs.Common.{least, low_key, high_key, BelongsAt, AreTogether, Contents, calls_at, SegmentView, segment_of, IsSegment}
use Rattle.cutter.proofs.Common.{AreSegments, AllPairs-front, AllPairs-back, All-front, All-back, All-from_contains, Contains-nil, Contains-first}
use Rattle.cutter.proofs.Common.{Contains-map, Contains-from_map, Contains-filter_map, Contains-from_filter_map, greatest_is, KeyRange, IsRangeOf}
use Rattle.cutter.proofs.Common.{AreRanges, AreChained, AreApart}
use Rattle.std.proofs.lemmas.List.Quantifiers.{Any-push, all_pairs_push}
use Rattle.cutter.proofs.ChainLemmas.{RiseByLow, Any-from_contains}
use Rattle.cutter.proofs.KeyRangeLemmas.{numbers_of}
use Rattle.cutter.proofs.CutLemmas.{AreTogether-chained, not_together-apart, range_from_belonging}

-- a number below each key of a list is below the least
least_above : {X : Type 0} (key : X → ℕ) (xs : List X) (x : X) (b : ℕ) → Contains xs x → All (λ y. b < key y) xs → b < least (map key xs)
least_above key [] x b is h = absurd (Contains-nil x is)
least_above key (y ∷ []) x b is h = All-head (λ y. b < key y) y [] h
least_above key (y ∷ z ∷ xs) x b is h =
    let first = All-head (λ y. b < key y) y (z ∷ xs) h in
    let rest = least_above key (z ∷ xs) z b (Contains-first z xs) (All-tail (λ y. b < key y) y (z ∷ xs) h) in
    omega arith

-- ranges that end below some and below others end below both
AreApart-append : (xs ys zs : List KeyRange) → AreApart xs zs → AreApart ys zs → AreApart (xs ++ ys) zs
AreApart-append xs ys zs first second = All-append (λ r. All (λ s. r.high < s.low) zs) xs ys first second

-- ranges that end below some end below the last of these
AreApart-back : (xs ys zs : List KeyRange) → AreApart xs (ys ++ zs) → AreApart xs zs
AreApart-back xs ys zs h =
    All-weaker (λ r. All (λ s. r.high < s.low) (ys ++ zs)) (λ r. All (λ s. r.high < s.low) zs)
    (λ r below. All-back (λ s. r.high < s.low) ys zs below) xs h

-- the call of a range belongs
BelongsAt-range : (calls : List Operation) (r : KeyRange) → IsRangeOf calls r → BelongsAt calls r.number
BelongsAt-range calls r h = rw h.here h.belonging

-- the numbers of some ranges, rising
record AreNumbersOf (ranges : List KeyRange) (numbers : List ℕ) : Type 0 where
  rising : IsStrictlyIncreasing numbers
  same : IsPermutation (numbers_of ranges) numbers

-- each of the numbers is that of a range
range_numbered : (ranges : List KeyRange) (numbers : List ℕ) (n : ℕ) → AreNumbersOf ranges numbers → Contains numbers n → (r : KeyRange)
    × Contains ranges r
    × (r.number ≡ n)
range_numbered ranges numbers n h is =
    Contains-from_map (λ (r : KeyRange). r.number) ranges n
    (Contains-permutation numbers (numbers_of ranges) n (IsPermutation-sym (numbers_of ranges) numbers h.same) is)

-- the number of each range is among them
number_in : (ranges : List KeyRange) (numbers : List ℕ) (r : KeyRange) → AreNumbersOf ranges numbers → Contains ranges r
    → Contains numbers r.number
number_in ranges numbers r h is = Contains-permutation (numbers_of ranges) numbers r.number h.same
    (Contains-map (λ (r : KeyRange). r.number) ranges r is)

-- ranges that hang together, apart from those before them and those after them, are the ranges of a segment
IsSegment-chained : (start : Contents) (calls : List Operation) (before chained after : List KeyRange) (numbers : List ℕ) (first : KeyRange)
    → AreRanges calls (before ++ (chained ++ after)) → AreApart before (chained ++ after)
    → AreChained chained → AreApart chained after → Contains chained first → AreNumbersOf chained numbers
    → IsSegment start calls (segment_of start calls numbers)
IsSegment-chained start calls before chained after numbers first h apart_before hang apart_after first_is its = record {
  not_empty = λ e. Contains-nil first.number (subst (λ ns. Contains ns first.number) e (number_in chained numbers first its first_is));
  rising = its.rising;
  members = λ m n m_in. (forth m n m_in, back m n m_in);
  view = refl;
}
  where
    in_order : (before ++ chained) ++ after ≡ before ++ (chained ++ after)
    in_order = append_assoc before chained after

    each : All (IsRangeOf calls) chained
    each = All-from_contains (IsRangeOf calls) chained (λ r is. All-contains (IsRangeOf calls) (before ++ (chained ++ after)) r h.each
        (Contains-append_right before (chained ++ after) r (Contains-append_left chained after r is)))

    forth : (m n : ℕ) → Contains numbers m → Contains numbers n → BelongsAt calls n × AreTogether calls m n
    forth m n m_in n_in =
        let (r, r_is, m_is) = range_numbered chained numbers m its m_in in
        let (s, s_is, n_is) = range_numbered chained numbers n its n_in in (
          subst (BelongsAt calls) n_is (BelongsAt-range calls s (All-contains (IsRangeOf calls) chained s each s_is)),
          subst (AreTogether calls m) n_is (subst (λ k. AreTogether calls k s.number) m_is (AreTogether-chained calls chained r s
              each hang r_is s_is)),
        )

    elsewhere : (r s : KeyRange) → Contains chained r → AreTogether calls r.number s.number → Contains before s ⊎ Contains after s → ⊥
    elsewhere r s r_is together s_is = ⊎_elim
        (λ s_before. (not_together-apart calls before (chained ++ after) s r h apart_before s_before (Contains-append_left chained after r
        r_is)).1 together)
        (λ s_after. (not_together-apart calls (before ++ chained) after r s (subst (AreRanges calls) (sym in_order) h)
        (AreApart-append before chained after (AreApart-back before chained after apart_before) apart_after)
        (Contains-append_right before chained r r_is) s_after).0 together) s_is

    back : (m n : ℕ) → Contains numbers m → BelongsAt calls n × AreTogether calls m n → Contains numbers n
    back m n m_in (belonging, together) =
        let (r, r_is, m_is) = range_numbered chained numbers m its m_in in
        let (s, s_is, n_is) = range_from_belonging calls (before ++ (chained ++ after)) n h belonging in
        let meet : AreTogether calls r.number s.number =
        subst (AreTogether calls r.number) (sym n_is) (subst (λ k. AreTogether calls k n) (sym m_is) together) in
        subst (Contains numbers) n_is (⊎_elim
        (λ s_before. absurd (elsewhere r s r_is meet (inl s_before)))
        (λ s_later. ⊎_elim (λ s_chained. number_in chained numbers s its s_chained)
        (λ s_after. absurd (elsewhere r s r_is meet (inr s_after)))
        (Contains-append_cases chained after s s_later))
        (Contains-append_cases before (chained ++ after) s s_is))

-- the segments of the ranges before the rest, which lies beyond them
pub record AreSegmentsBefore (start : Contents) (calls : List Operation) (rest : List KeyRange) (segments : List SegmentView) : Type 0 where
  pub before : List KeyRange
  pub ranges : AreRanges calls (before ++ rest)
  pub apart : AreApart before rest
  pub by_low_key : RiseByLow rest
  pub each : All (IsSegment start calls) segments
  pub all : All (λ r. Any (λ s. Contains s.numbers r.number) segments) before
  pub by_key : AllPairs (λ s t. s.hi < t.lo) segments
  pub below : All (λ s. All (λ r. s.hi < r.low) rest) segments

-- the keys of a segment are those of its ranges
module _ (start : Contents) (calls : List Operation) (ranges : List KeyRange) (numbers : List ℕ) (first : KeyRange)
    (each : All (IsRangeOf calls) ranges)
    (its : AreNumbersOf ranges numbers) (first_is : Contains ranges first) where
  -- the range of a call that has one of the numbers
  range_at : (a : Operation) → Contains (calls_at calls numbers) a → (r : KeyRange) × Contains ranges r × (r.low ≡ low_key a.call)
      × (r.high ≡ high_key a.call)
  range_at a is =
      let (n, n_in, here) = Contains-from_filter_map (slice_get calls) numbers a is in
      let (r, r_is, n_is) = range_numbered ranges numbers n its n_in in
      let range = All-contains (IsRangeOf calls) ranges r each r_is in
      let one : range.operation ≡ a = same_Some range.operation a (sym range.here ∙ (ap (slice_get calls) n_is ∙ here)) in
      (r, r_is, range.low ∙ ap (λ a. low_key a.call) one, range.high ∙ ap (λ a. high_key a.call) one)

  -- the first range is that of a call
  first_call : (a : Operation) × Contains (calls_at calls numbers) a
  first_call =
      let range = All-contains (IsRangeOf calls) ranges first each first_is in (
        range.operation,
        Contains-filter_map (slice_get calls) numbers first.number range.operation
            (number_in ranges numbers first its first_is) range.here,
      )

  -- what ends below all the ranges ends below the segment
  below_segment : (b : ℕ) → All (λ r. b < r.low) ranges → b < (segment_of start calls numbers).lo
  below_segment b h = least_above (λ a. low_key a.call) (calls_at calls numbers) first_call.0 b first_call.1
      (All-from_contains (λ a. b < low_key a.call) (calls_at calls numbers)
      (λ a is. let (r, r_is, low, high) = range_at a is in omega (arith, low, All-contains (λ r. b < r.low) ranges r h r_is)))

  -- the segment ends below what all the ranges end below
  segment_below : (c : ℕ) → All (λ r. r.high < c) ranges → (segment_of start calls numbers).hi < c
  segment_below c h =
      let (top, top_is, hi_is) = greatest_is (λ a. high_key a.call) (calls_at calls numbers) first_call.0 first_call.1 in
      let (r, r_is, low, high) = range_at top top_is in
      omega (arith, hi_is, high, All-contains (λ r. r.high < c) ranges r h r_is)

-- a chain of ranges is the next segment
AreSegmentsBefore-chained : (start : Contents) (calls : List Operation) (chained after : List KeyRange) (segments : List SegmentView)
    (numbers : List ℕ)
    (first : KeyRange)
    → AreSegmentsBefore start calls (chained ++ after) segments
    → AreChained chained → AreApart chained after → Contains chained first → AreNumbersOf chained numbers
    → AreSegmentsBefore start calls after (segments ++ segment_of start calls numbers ∷ [])
AreSegmentsBefore-chained start calls chained after segments numbers first h hang apart first_is its = record {
  before = h.before ++ chained;
  ranges = subst (AreRanges calls) (sym (append_assoc h.before chained after)) h.ranges;
  apart = AreApart-append h.before chained after (AreApart-back h.before chained after h.apart) apart;
  by_low_key = AllPairs-back (λ r s. r.low ≤ s.low) chained after h.by_low_key;
  each = All-push (IsSegment start calls) segments segment h.each
      (IsSegment-chained start calls h.before chained after numbers first h.ranges h.apart hang apart first_is its);
  all = All-append (λ r. Any (λ s. Contains s.numbers r.number) (segments ++ segment ∷ [])) h.before chained
      (All-weaker (λ r. Any (λ s. Contains s.numbers r.number) segments)
      (λ r. Any (λ s. Contains s.numbers r.number) (segments ++ segment ∷ []))
      (λ r found. Any-from_contains (λ s. Contains s.numbers r.number) (segments ++ segment ∷ []) found.1
      (Contains-append_left segments (segment ∷ []) found.1 (found.0, found.2, found.3)) found.4) h.before h.all)
      (All-from_contains (λ r. Any (λ s. Contains s.numbers r.number) (segments ++ segment ∷ [])) chained
      (λ r is. Any-push (λ s. Contains s.numbers r.number) segments segment (number_in chained numbers r its is)));
  by_key = all_pairs_push (λ s t. s.hi < t.lo) segments segment h.by_key
      (λ k d within. below_segment start calls chained numbers first each its first_is (get_or segments k d).hi
      (All-front (λ r. (get_or segments k d).hi < r.low) chained after (h.below k d within)));
  below = All-push (λ s. All (λ r. s.hi < r.low) after) segments segment
      (All-weaker (λ s. All (λ r. s.hi < r.low) (chained ++ after)) (λ s. All (λ r. s.hi < r.low) after)
      (λ s below. All-back (λ r. s.hi < r.low) chained after below) segments h.below)
      (All-from_contains (λ r. segment.hi < r.low) after (λ r is. segment_below start calls chained numbers first each its first_is r.low
      (All-weaker (λ z. All (λ s. z.high < s.low) after) (λ z. z.high < r.low)
      (λ z below. All-contains (λ s. z.high < s.low) after r below is) chained apart)));
}
  where
    segment : SegmentView
    segment = segment_of start calls numbers

    each : All (IsRangeOf calls) chained
    each = All-front (IsRangeOf calls) chained after (All-back (IsRangeOf calls) h.before (chained ++ after) h.ranges.each)

-- the first of the rest that hang together are the next segment
pub AreSegmentsBefore-more : (start : Contents) (calls : List Operation) (rest : List KeyRange) (len : ℕ) (segments : List SegmentView)
    (numbers : List ℕ)
    → AreSegmentsBefore start calls rest segments → 0 < len → len ≤ length rest
    → AreChained (take len rest) → AreApart (take len rest) (drop len rest) → IsStrictlyIncreasing numbers
    → IsPermutation (numbers_of (take len rest)) numbers
    → AreSegmentsBefore start calls (drop len rest) (segments ++ segment_of start calls numbers ∷ [])
AreSegmentsBefore-more start calls [] len segments numbers h some within hang apart rising same = absurd (omega arith)
AreSegmentsBefore-more start calls (r ∷ rest) len segments numbers h some within hang apart rising same =
    AreSegmentsBefore-chained start calls (take len (r ∷ rest)) (drop len (r ∷ rest)) segments numbers (get_or (take len (r ∷ rest)) 0 r)
    (subst (λ ranges. AreSegmentsBefore start calls ranges segments) (sym (take-append-drop len (r ∷ rest))) h) hang apart
    (Contains-get_or (take len (r ∷ rest)) 0 r (omega (arith, length-take-le len (r ∷ rest) within)))
    (record { rising = rising; same = same })

-- the first of the rest have different numbers
pub distinct_first : (start : Contents) (calls : List Operation) (rest : List KeyRange) (len : ℕ) (segments : List SegmentView)
    → AreSegmentsBefore start calls rest segments
    → AllPairs (λ r s. r.number ≢ s.number) (take len rest)
distinct_first start calls rest len segments h =
    let R = λ (r s : KeyRange). r.number ≢ s.number in
    AllPairs-front R (take len rest) (drop len rest)
    (subst (AllPairs R) (sym (take-append-drop len rest)) (AllPairs-back R h.before rest h.ranges.distinct))

-- the numbers of the first ranges are those of calls
pub known_first : (start : Contents) (calls : List Operation) (rest : List KeyRange) (len : ℕ) (segments : List SegmentView)
    (numbers : List ℕ)
    → AreSegmentsBefore start calls rest segments → IsPermutation (numbers_of (take len rest)) numbers
    → All (λ n. n < length calls) numbers
known_first start calls rest len segments numbers h same = All-permutation (λ n. n < length calls) (numbers_of (take len rest)) numbers same
    (All-map (λ n. n < length calls) (λ (r : KeyRange). r.number) (take len rest) (All-take (λ r. r.number < length calls) len rest
    (All-weaker (IsRangeOf calls) (λ r. r.number < length calls)
    (λ r range. slice_get_within calls r.number range.operation range.here) rest
    (All-back (IsRangeOf calls) h.before rest h.ranges.each))))

-- the first ranges have some numbers
pub some_first : (rest : List KeyRange) (len : ℕ) (numbers : List ℕ) → 0 < len → len ≤ length rest
    → IsPermutation (numbers_of (take len rest)) numbers
    → numbers ≢ []
some_first rest len numbers some within same none = omega (
  arith,
  ap length none,
  length_permutation (numbers_of (take len rest)) numbers same,
  length-map (take len rest) (λ (r : KeyRange). r.number),
  length-take-le len rest within,
)

-- with nothing left these are the segments
pub AreSegments-from_before : (start : Contents) (calls : List Operation) (segments : List SegmentView)
    → AreSegmentsBefore start calls [] segments
    → AreSegments start calls segments
AreSegments-from_before start calls segments h = record {
  each = h.each;
  all = λ n belonging.
      let (r, is, number) = range_from_belonging calls (h.before ++ []) n h.ranges belonging in
      subst (λ k. Any (λ s. Contains s.numbers k) segments) number (⊎_elim
      (λ before. All-contains (λ r. Any (λ s. Contains s.numbers r.number) segments) h.before r h.all before)
      (λ after. absurd (Contains-nil r after)) (Contains-append_cases h.before [] r is));
  by_key = h.by_key;
}
