-- No number is in two of the orders that are merged.
use Rattle.merge_orders.proofs.Common.{◌≡◌, ℕ, ◌+◌, ◌<◌, ◌≤◌, ◌==◌, Bool, true, false, cond, List, [], ◌∷◌, length, get_or, filter, refl, sym}
use Rattle.merge_orders.proofs.Common.{ap, ◌∙◌, ⊎_elim, arith, slice_get, All, AllPairs, Contains, AllZip, concat, eq-eqb, ne_eqb, cases_order}
use Rattle.merge_orders.proofs.Common.{false≢true, false_from_ne_true, append-nil, All-contains, Contains-get_or, AllPairs-cons, same_Some}
use Rattle.merge_orders.proofs.Common.{slice_get-get_or, Operation, has_number, Contents, SegmentView, IsSegment, AreSegments, IsOrderOf}
use Rattle.merge_orders.proofs.Common.{point_in, point_of, IsMergedOrder, AllPairs-nil, AllPairs-head, AllPairs-tail, Contains-nil}
use Rattle.merge_orders.proofs.Common.{Contains-cases, Contains-at, place_of-Contains, All-from_contains, slice_get-below, has_number-Contains}
use Rattle.merge_orders.proofs.Common.{has_number-from_Contains, AllPairs-weaker, IsInside-segment, IsOrderByNumber-from_order, zip_right}
use Rattle.std.specs.List.{sum_by}
use Rattle.std.proofs.lemmas.List.Elements.{filter-append}
use Rattle.std.proofs.lemmas.List.Sorted.{sum_by-IsPermutation}
use Rattle.std.proofs.lemmas.List.Sums.{sum_by-cons, sum_by-append}
use Rattle.events.specs.Keys.{low_key, high_key}
use Rattle.events.proofs.Lists.{filter_all, filter_none}
use Rattle.events.proofs.FilterLemmas.{AllPairs-at}
use Rattle.orders.proofs.SegmentLemmas.{known-IsSegment}
use Rattle.merge_orders.proofs.PointLemmas.{point_of-is}
use Rattle.merge_orders.proofs.MergeLemmas.{Contains-from_concat}

-- no number is in two of the lists
abbrev pub AreDisjoint : List (List ℕ) → Type 0
AreDisjoint orders = AllPairs (λ order other. (n : ℕ) → Contains order n → Contains other n → ⊥) orders

-- 1 for a number and 0 for all others
abbrev one_at : ℕ → ℕ → ℕ
one_at n m = cond (m == n) 1 0

-- how often a number is in a list
abbrev count : ℕ → List ℕ → ℕ
count n xs = sum_by (one_at n) xs

-- a filter that passes a number keeps it as often as it is there
count-filter : (n : ℕ) (p : ℕ → Bool) (xs : List ℕ) → p n ≡ true → count n (filter p xs) ≡ count n xs
count-filter n p [] pass = refl
count-filter n p (x ∷ xs) pass = by_test (p x) refl (count-filter n p xs pass)
  where
    differs : p x ≡ false → x ≡ n → ⊥
    differs fails same = false≢true (sym fails ∙ (ap p same ∙ pass))

    by_test : (b : Bool) → p x ≡ b → count n (filter p xs) ≡ count n xs
        → count n (cond b (x ∷ filter p xs) (filter p xs)) ≡ count n (x ∷ xs)
    by_test true e rest = sum_by-cons (one_at n) x (filter p xs) ∙ (ap (λ k. one_at n x + k) rest ∙ sym (sum_by-cons (one_at n) x xs))
    by_test false e rest =
        let none : one_at n x ≡ 0 = rw (ne_eqb x n (differs e)) refl in
        omega (arith, rest, none, sum_by-cons (one_at n) x xs)

-- a number of a list is there at least once
count-Contains : (n : ℕ) (xs : List ℕ) → Contains xs n → 0 < count n xs
count-Contains n [] h = absurd (Contains-nil n h)
count-Contains n (x ∷ xs) h = ⊎_elim
    (λ same. let one : one_at n x ≡ 1 = rw (eq-eqb x n same) refl in omega (arith, one, sum_by-cons (one_at n) x xs))
    (λ later. omega (arith, count-Contains n xs later, sum_by-cons (one_at n) x xs)) (Contains-cases x xs n h)

-- a number is in lists together at least as often as in one of them
count-concat : (n : ℕ) (orders : List (List ℕ)) (order : List ℕ) → Contains orders order → count n order ≤ count n (concat orders)
count-concat n [] order h = absurd (Contains-nil order h)
count-concat n (first ∷ orders) order h =
    let sum = sum_by-append (one_at n) first (concat orders) in
    ⊎_elim (λ same. let e = ap (count n) same in omega arith) (λ later. omega (arith, sum, count-concat n orders order later))
    (Contains-cases first orders order h)

-- a number is in lists together at least as often as in two of them
count-two : (n : ℕ) (orders : List (List ℕ)) → AllPairs (λ order other. count n order + count n other ≤ count n (concat orders)) orders
count-two n [] = AllPairs-nil (λ order other. count n order + count n other ≤ count n (concat []))
count-two n (first ∷ orders) =
    let sum = sum_by-append (one_at n) first (concat orders) in
    AllPairs-cons (λ order other. count n order + count n other ≤ count n (concat (first ∷ orders))) first orders
    (All-from_contains (λ other. count n first + count n other ≤ count n (concat (first ∷ orders))) orders
    (λ other is. omega (arith, sum, count-concat n orders other is)))
    (AllPairs-weaker (λ order other. count n order + count n other ≤ count n (concat orders))
    (λ order other. count n order + count n other ≤ count n (concat (first ∷ orders))) orders
    (λ order other order_is other_is le. omega (arith, sum, le)) (count-two n orders))

-- orders that can be merged have no number in common
pub AreDisjoint-from_merged : (calls : List Operation) (orders : List (List ℕ)) (merged : List ℕ) → IsMergedOrder calls orders merged
    → AreDisjoint orders
AreDisjoint-from_merged calls orders merged h i j d before within n in_first in_second =
    let first = get_or orders i d in
    let second = get_or orders j d in
    let first_is = Contains-get_or orders i d (omega arith) in
    let two = count-two n orders i j d before within in
    let all = sum_by-IsPermutation (one_at n) (concat orders) merged h.same_calls in
    let same = ap (count n) (All-contains (λ order. filter (has_number order) merged ≡ order) orders first h.by_place first_is) in
    let kept = count-filter n (has_number first) merged (has_number-from_Contains first n in_first) in
    omega (arith, two, all, same, kept, count-Contains n second in_second)

-- two orders with a number in common are one
pub same_order : (orders : List (List ℕ)) (order other : List ℕ) (n : ℕ) → AreDisjoint orders → Contains orders order
    → Contains orders other
    → Contains order n → Contains other n → order ≡ other
same_order orders order other n disjoint order_is other_is in_order in_other =
    let R = λ (order other : List ℕ). (n : ℕ) → Contains order n → Contains other n → ⊥ in
    let (i, order_at) = place_of-Contains orders order order_is in
    let (j, other_at) = place_of-Contains orders other other_is in
    ⊎_elim (λ same. same_Some order other (sym order_at ∙ (ap (slice_get orders) same ∙ other_at))) (λ differ. ⊎_elim
    (λ before. absurd (AllPairs-at R orders i j order other disjoint before order_at other_at n in_order in_other))
    (λ after. absurd (AllPairs-at R orders j i other order disjoint after other_at order_at n in_other in_order)) differ) (cases_order i j)

-- orders of segments have no number in common, where no scan has its ends the wrong way round
pub AreDisjoint-from_segments : (start : Contents) (calls : List Operation) (segments : List SegmentView) (orders : List (List ℕ))
    → All (λ a. low_key a.call ≤ high_key a.call) calls
    → AreSegments start calls segments → AllZip IsOrderOf segments orders → AreDisjoint orders
AreDisjoint-from_segments start calls segments orders in_order are zip i j d before within n in_first in_second =
    let (s, s_at, first) = zip_right IsOrderOf segments orders i (get_or orders i d) zip (slice_get-get_or orders i d (omega arith)) in
    let (t, t_at, second) = zip_right IsOrderOf segments orders j (get_or orders j d) zip (slice_get-get_or orders j d within) in
    let s_is = All-contains (IsSegment start calls) segments s are.each (Contains-at segments i s s_at) in
    let t_is = All-contains (IsSegment start calls) segments t are.each (Contains-at segments j t t_at) in
    let in_s =
    All-contains (Contains s.numbers) (get_or orders i d) n
    (IsOrderByNumber-from_order start calls s (get_or orders i d) s_is first).within in_first in
    let in_t =
    All-contains (Contains t.numbers) (get_or orders j d) n
    (IsOrderByNumber-from_order start calls t (get_or orders j d) t_is second).within in_second in
    let (a, here) = slice_get-below calls n (All-contains (λ n. n < length calls) s.numbers n (known-IsSegment start calls s s_is) in_s) in
    let below_high = (IsInside-segment start calls s n a s_is in_s here).high_inside in
    let above_low = (IsInside-segment start calls t n a t_is in_t here).low_inside in
    let apart = AllPairs-at (λ s t. s.hi < t.lo) segments i j s t are.by_key before s_at t_at in
    let ends = All-contains (λ a. low_key a.call ≤ high_key a.call) calls a in_order (Contains-at calls n a here) in
    absurd (omega arith)

-- the point of a call is that in the order that has it
pub point_of-in : (calls : List Operation) (orders : List (List ℕ)) (order : List ℕ) (n : ℕ) → AreDisjoint orders → Contains orders order
    → Contains order n
    → point_of calls orders n ≡ point_in calls order n
point_of-in calls orders order n disjoint is number =
    let at = point_of-is calls orders order n is number in
    at.point ∙ ap (λ o. point_in calls o n) (same_order orders at.order order n disjoint at.is is at.number number)

-- If disjoint orders are put one after another and only the numbers of one of them are kept, that
-- order is what is left.
pub filter-concat : (orders : List (List ℕ)) (order : List ℕ) → AreDisjoint orders → Contains orders order
    → filter (has_number order) (concat orders) ≡ order
filter-concat [] order disjoint is = absurd (Contains-nil order is)
filter-concat (first ∷ orders) order disjoint is =
    filter-append (has_number order) first (concat orders) ∙ ⊎_elim
    (λ same. rw (← same) (rw (here, not_later) (append-nil first)))
    (λ later. rw (
      not_first later,
      filter-concat orders order (AllPairs-tail (λ order other. (n : ℕ) → Contains order n → Contains other n → ⊥) first
          orders disjoint) later,
    ) refl)
    (Contains-cases first orders order is)
  where
    apart : All (λ other. (n : ℕ) → Contains first n → Contains other n → ⊥) orders
    apart = AllPairs-head (λ order other. (n : ℕ) → Contains order n → Contains other n → ⊥) first orders disjoint

    here : filter (has_number first) first ≡ first
    here = filter_all (has_number first) first
        (All-from_contains (λ n. has_number first n ≡ true) first (λ n number. has_number-from_Contains first n number))

    not_later : filter (has_number first) (concat orders) ≡ []
    not_later =
        filter_none (has_number first) (concat orders)
        (All-from_contains (λ n. has_number first n ≡ false) (concat orders) (λ n number. false_from_ne_true (has_number first n)
        (λ yes_first. let (other, other_is, in_other) = Contains-from_concat orders n number in
        All-contains (λ other. (n : ℕ) → Contains first n → Contains other n → ⊥) orders other apart other_is n
        (has_number-Contains first n yes_first) in_other)))

    not_first : Contains orders order → filter (has_number order) first ≡ []
    not_first later =
        filter_none (has_number order) first (All-from_contains (λ n. has_number order n ≡ false) first (λ n number. false_from_ne_true
        (has_number order n)
        (λ has. All-contains (λ other. (n : ℕ) → Contains first n → Contains other n → ⊥) orders order apart later n number
        (has_number-Contains order n has))))
