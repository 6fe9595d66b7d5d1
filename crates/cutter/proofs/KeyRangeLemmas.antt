-- The ranges of the calls that belong to a segment, found one after another and sorted.
use Rattle.cutter.proofs.Common.{◌≡◌, ℕ, ◌+◌, ◌<◌, ◌≤◌, true, false, eqb, List, [], ◌∷◌, ◌++◌, length, get_or, map, Some, refl, arith, ◌≢◌, slice_get}
use Rattle.cutter.proofs.Common.{All, AllPairs, IsPermutation, IsNonDecreasing, IsNonDecreasingBy, IsStrictlyIncreasing, ne_eqb, eqb-false}
use Rattle.cutter.proofs.Common.{map-append, All-push, All-permutation, Contains-permutation, IsPermutation-map, Operation, low_key, high_key}
use Rattle.cutter.proofs.Common.{belongs, AllPairs-weaker, AllPairs-from_map, KeyRange, range_with, IsRangeOf, AreRanges}
use Rattle.std.specs.List.{IsDistinct}
use Rattle.std.proofs.lemmas.Map.Keys.{IsDistinct-from_apart, apart_from_distinct, IsDistinct-IsPermutation, IsStrictlyIncreasing-from_distinct}
use Rattle.orders.proofs.BelongingLemmas.{BelongBelow, BelongBelow-take, BelongBelow-skip, BelongBelow-all}
use Rattle.cutter.proofs.ChainLemmas.{RiseByLow}

-- the numbers of ranges
abbrev pub numbers_of : List KeyRange → List ℕ
numbers_of ranges = map (λ r. r.number) ranges

-- the ranges of the calls below a place that belong
pub record AreRangesBelow (calls : List Operation) (place : ℕ) (ranges : List KeyRange) : Type 0 where
  pub each : All (IsRangeOf calls) ranges
  pub numbers : BelongBelow calls place (numbers_of ranges)

-- one more, where the call at the place belongs
pub AreRangesBelow-take : (calls : List Operation) (place : ℕ) (ranges : List KeyRange) (a : Operation) → AreRangesBelow calls place ranges
    → slice_get calls place ≡ Some a → belongs a ≡ true → low_key a.call ≤ high_key a.call
    → AreRangesBelow calls (place + 1) (ranges ++ range_with place a.call ∷ [])
AreRangesBelow-take calls place ranges a h here belonging in_order =
    let range = range_with place a.call in
    record {
      each = All-push (IsRangeOf calls) ranges range h.each
          (record { operation = a; here = here; belonging = belonging; low = refl; high = refl; in_order = in_order });
      numbers = rw (map-append (λ (r : KeyRange). r.number) ranges (range ∷ []))
          (BelongBelow-take calls place (numbers_of ranges) a h.numbers here belonging);
    }

-- the call at the place does not belong, so no range is added
pub AreRangesBelow-skip : (calls : List Operation) (place : ℕ) (ranges : List KeyRange) (a : Operation) → AreRangesBelow calls place ranges
    → slice_get calls place ≡ Some a → belongs a ≡ false → AreRangesBelow calls (place + 1) ranges
AreRangesBelow-skip calls place ranges a h here apart =
    record { each = h.each; numbers = BelongBelow-skip calls place (numbers_of ranges) a h.numbers here apart }

-- after the last call these are the ranges of all that belong
pub AreRanges-from_below : (calls : List Operation) (ranges : List KeyRange) → AreRangesBelow calls (length calls) ranges
    → AreRanges calls ranges
AreRanges-from_below calls ranges h = record {
  each = h.each;
  all = λ n belonging. (BelongBelow-all calls (numbers_of ranges) h.numbers n).1 belonging;
  distinct = AllPairs-weaker (λ r s. r.number < s.number) (λ r s. r.number ≢ s.number) ranges
      (λ r s r_is s_is less same. absurd (omega arith))
      (AllPairs-from_map (λ m n. m < n) (λ (r : KeyRange). r.number) ranges h.numbers.rising);
}

-- elements of which no two have one number are distinct by it
IsDistinct-from_pairs : {X : Type 0} (number : X → ℕ) (xs : List X) → AllPairs (λ x y. number x ≢ number y) xs
    → IsDistinct (λ x y. eqb (number x) (number y)) xs
IsDistinct-from_pairs number xs h =
    IsDistinct-from_apart (λ x y. eqb (number x) (number y)) xs
    (λ i j d before within. ne_eqb (number (get_or xs i d)) (number (get_or xs j d)) (h i j d before within))

-- no two elements that are distinct by number have one number
pairs_from_IsDistinct : {X : Type 0} (number : X → ℕ) (xs : List X) → IsDistinct (λ x y. eqb (number x) (number y)) xs
    → AllPairs (λ x y. number x ≢ number y) xs
pairs_from_IsDistinct number xs h i j d before within =
    eqb-false (number (get_or xs i d)) (number (get_or xs j d))
    (apart_from_distinct (λ x y. eqb (number x) (number y)) xs i j d h before within)

-- the test of two numbers answers alike in either order
eqb_comm : (m n : ℕ) → eqb m n ≡ eqb n m
eqb_comm m n = grind arith

-- distinct elements stay so when they change places
pub distinct-IsPermutation : {X : Type 0} (number : X → ℕ) (xs ys : List X) → IsPermutation xs ys → AllPairs (λ x y. number x ≢ number y) xs
    → AllPairs (λ x y. number x ≢ number y) ys
distinct-IsPermutation number xs ys moved h = pairs_from_IsDistinct number ys
    (IsDistinct-IsPermutation (λ x y. eqb (number x) (number y)) (λ x y. eqb_comm (number x) (number y)) xs ys moved
    (IsDistinct-from_pairs number xs h))

-- the ranges may change places
pub AreRanges-IsPermutation : (calls : List Operation) (xs ys : List KeyRange) → IsPermutation xs ys → AreRanges calls xs
    → AreRanges calls ys
AreRanges-IsPermutation calls xs ys moved h = record {
  each = All-permutation (IsRangeOf calls) xs ys moved h.each;
  all = λ n belonging. Contains-permutation (numbers_of xs) (numbers_of ys) n (IsPermutation-map (λ (r : KeyRange). r.number) xs ys moved)
      (h.all n belonging);
  distinct = distinct-IsPermutation (λ (r : KeyRange). r.number) xs ys moved h.distinct;
}

-- ranges that are sorted by their low key rise by it
pub RiseByLow-from_sort : (ranges : List KeyRange) → IsNonDecreasingBy (λ r. r.low) ranges → RiseByLow ranges
RiseByLow-from_sort ranges h i j d before within = h i j d (omega arith) within

-- distinct numbers, sorted, rise
pub IsStrictlyIncreasing-from_sort : (numbers sorted : List ℕ) → AllPairs (λ m n. m ≢ n) numbers → IsPermutation numbers sorted
    → IsNonDecreasing sorted
    → IsStrictlyIncreasing sorted
IsStrictlyIncreasing-from_sort numbers sorted distinct moved up =
    IsStrictlyIncreasing-from_distinct sorted up
    (IsDistinct-IsPermutation eqb eqb_comm numbers sorted moved (IsDistinct-from_pairs (λ n. n) numbers distinct))
