-- A stable sort of all calls by their points is the merged order.
use Rattle.merge_orders.proofs.Common.{◌≡◌, ℕ, ◌≤◌, ◌==◌, Bool, true, false, cond, List, [], ◌∷◌, get_or, map, filter, refl, sym, ap, ◌∙◌, subst}
use Rattle.merge_orders.proofs.Common.{arith, All, AllPairs, IsPermutation, concat, All-head, All-tail, Operation, point_of, IsMergedOrder}
use Rattle.merge_orders.proofs.Common.{CallAtPoint, NameCallsOnce, at_point}
use Rattle.std.proofs.Common.{not, ◌&&◌}
use Rattle.std.specs.List.Sorted.{IsSortedByKey, IsStableByKey}
use Rattle.std.specs.Ordering.{nat_cmp, is_lt}
use Rattle.std.proofs.lemmas.List.Elements.{All-map}
use Rattle.std.proofs.lemmas.List.Sorted.{IsPermutation-map, All-permutation, IsNonDecreasingBy-from_sort}
use Rattle.events.proofs.FilterLemmas.{AllPairs-map}
use Rattle.events.proofs.NumberLemmas.{tie_is_same}
use Rattle.merge_orders.proofs.SortedMergeLemmas.{IsMergedOrder-from_sort}

-- a filter keeps of a mapped list what its test passes there
filter-map : {X Y : Type 0} (p : Y → Bool) (f : X → Y) (xs : List X) → filter p (map f xs) ≡ map f (filter (λ x. p (f x)) xs)
filter-map p f [] = refl
filter-map p f (x ∷ xs) = kept (p (f x)) (filter-map p f xs)
  where
    kept : (b : Bool) → filter p (map f xs) ≡ map f (filter (λ x. p (f x)) xs)
        → cond b (f x ∷ filter p (map f xs)) (filter p (map f xs)) ≡ map f
        (cond b (x ∷ filter (λ x. p (f x)) xs) (filter (λ x. p (f x)) xs))
    kept true rest = ap (λ ys. f x ∷ ys) rest
    kept false rest = rest

-- two tests that agree at each element of a list keep the same
filter_agree : {X : Type 0} (p q : X → Bool) (xs : List X) → All (λ x. p x ≡ q x) xs → filter p xs ≡ filter q xs
filter_agree p q [] same = refl
filter_agree p q (x ∷ xs) same = rw (All-head (λ x. p x ≡ q x) x xs same, filter_agree p q xs (All-tail (λ x. p x ≡ q x) x xs same)) refl

-- numbers with their points have the numbers
numbers-at_point : (calls : List Operation) (orders : List (List ℕ)) (ns : List ℕ)
    → map (λ c. c.number) (map (at_point calls orders) ns) ≡ ns
numbers-at_point calls orders [] = refl
numbers-at_point calls orders (n ∷ ns) = ap (λ rest. n ∷ rest) (numbers-at_point calls orders ns)

-- all calls with their points, sorted by them, where equal points keep their places
pub IsMergedOrder-sorted : (calls : List Operation) (orders : List (List ℕ)) (placed sorted : List CallAtPoint) → NameCallsOnce calls orders
    → placed ≡ map (at_point calls orders) (concat orders) → IsPermutation placed sorted → IsSortedByKey (λ c. c.point) nat_cmp sorted
    → IsStableByKey (λ c. c.point) nat_cmp placed sorted
    → IsMergedOrder calls orders (map (λ c. c.number) sorted)
IsMergedOrder-sorted calls orders placed sorted once is same_calls up stable =
    IsMergedOrder-from_sort calls orders (map (λ c. c.number) sorted) once.disjoint once.distinct permuted by_point kept
  where
    -- each call has its point
    points : All (λ c. c.point ≡ point_of calls orders c.number) sorted
    points = All-permutation (λ c. c.point ≡ point_of calls orders c.number) placed sorted same_calls
        (rw is (All-map (λ c. c.point ≡ point_of calls orders c.number) (at_point calls orders) (concat orders) (λ k d within. refl)))

    permuted : IsPermutation (concat orders) (map (λ c. c.number) sorted)
    permuted =
        subst (λ ns. IsPermutation ns (map (λ c. c.number) sorted))
        (ap (map (λ c. c.number)) is ∙ numbers-at_point calls orders (concat orders))
        (IsPermutation-map (λ c. c.number) placed sorted same_calls)

    by_point : AllPairs (λ m n. point_of calls orders m ≤ point_of calls orders n) (map (λ c. c.number) sorted)
    by_point = AllPairs-map (λ m n. point_of calls orders m ≤ point_of calls orders n) (λ c. c.number) sorted
        (λ i j d before within. omega (
          arith,
          IsNonDecreasingBy-from_sort (λ c. c.point) sorted up i j d (omega arith) within,
          points i d (omega arith),
          points j d within,
        ))

    -- the calls at a place, among those with their points
    at_place : (place : ℕ) (cs : List CallAtPoint)
        → filter (λ c. not (is_lt (nat_cmp place c.point)) && not (is_lt (nat_cmp c.point place))) cs ≡ filter (λ c. c.point == place) cs
    at_place place cs =
        filter_agree (λ c. not (is_lt (nat_cmp place c.point)) && not (is_lt (nat_cmp c.point place))) (λ c. c.point == place) cs
        (λ k d within. tie_is_same place (get_or cs k d).point)

    kept : (place : ℕ)
        → filter (λ n. point_of calls orders n == place) (map (λ c. c.number) sorted) ≡ filter
        (λ n. point_of calls orders n == place) (concat orders)
    kept place =
        let here = λ (c : CallAtPoint). c.point == place in
        let number = λ (c : CallAtPoint). c.number in
        let same : filter here sorted ≡ filter here placed =
        sym (at_place place sorted) ∙ (stable (record { point = place; number = 0 }) ∙ at_place place placed) in
        filter-map (λ n. point_of calls orders n == place) number sorted
        ∙ (ap (map number)
        (filter_agree (λ c. point_of calls orders c.number == place) here sorted
        (λ k d within. ap (λ p. p == place) (sym (points k d within)))
        ∙ (same ∙ (ap (filter here) is ∙ filter-map here (at_point calls orders) (concat orders))))
        ∙ numbers-at_point calls orders (filter (λ n. point_of calls orders n == place) (concat orders)))
