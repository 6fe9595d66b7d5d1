-- A stable sort of all orders by point is the merged order.
use Rattle.merge_orders.proofs.Common.{◌≡◌, ℕ, ◌<◌, ◌≤◌, ◌==◌, List, [], ◌∷◌, filter, refl, sym, ap, ◌∙◌, subst, ⊎_elim, arith, ◌≢◌, All}
use Rattle.merge_orders.proofs.Common.{AllPairs, Contains, IsPermutation, concat, eq-eqb, cases_order, All-contains, Operation, has_number}
use Rattle.merge_orders.proofs.Common.{point_in, point_of, IsMergedOrder, AllPairs-head, AllPairs-tail, Contains-first, Contains-cases}
use Rattle.merge_orders.proofs.Common.{All-from_contains, filter_rest, Contains-from_filter, AllPairs-weaker}
use Rattle.std.proofs.lemmas.List.Kept.{AllPairs-filter}
use Rattle.events.proofs.FilterLemmas.{filter_comm, filter_yes}
use Rattle.merge_orders.proofs.PointLemmas.{point_in-rises}
use Rattle.merge_orders.proofs.DisjointLemmas.{AreDisjoint, point_of-in, filter-concat}

-- the numbers with this key, where the first number has it
with_key : (key : ℕ → ℕ) (x : ℕ) (xs : List ℕ) → filter (λ n. key n == key x) (x ∷ xs) ≡ x ∷ filter (λ n. key n == key x) xs
with_key key x xs = filter_yes (λ n. key n == key x) x xs (eq-eqb (key x) (key x) refl)

-- no list that rises by a key begins above a key that a list like it begins with
not_above : (key : ℕ → ℕ) (x y : ℕ) (xs ys : List ℕ) → AllPairs (λ m n. key m ≤ key n) (y ∷ ys)
    → filter (λ n. key n == key x) (x ∷ xs) ≡ filter (λ n. key n == key x) (y ∷ ys) → key x < key y → ⊥
not_above key x y xs ys up same less =
    let among : Contains (y ∷ ys) x =
    (Contains-from_filter (λ n. key n == key x) (y ∷ ys) x
    (subst (λ ns. Contains ns x) (sym (with_key key x xs) ∙ same) (Contains-first x (filter (λ n. key n == key x) xs)))).0 in
    ⊎_elim (λ equal. let e = ap key equal in absurd (omega arith))
    (λ later. let le = All-contains (λ n. key y ≤ key n) ys x (AllPairs-head (λ m n. key m ≤ key n) y ys up) later in absurd (omega arith))
    (Contains-cases y ys x among)

-- two lists that rise by a key and agree at each key are one
pub same_sorted : (key : ℕ → ℕ) (xs ys : List ℕ) → AllPairs (λ m n. key m ≤ key n) xs → AllPairs (λ m n. key m ≤ key n) ys
    → ((k : ℕ) → filter (λ n. key n == k) xs ≡ filter (λ n. key n == k) ys) → xs ≡ ys
same_sorted key [] [] up_x up_y same = refl
same_sorted key [] (y ∷ ys) up_x up_y same = let e : [] ≡ y ∷ filter (λ n. key n == key y) ys = same (key y) ∙ with_key key y ys in cc
same_sorted key (x ∷ xs) [] up_x up_y same = let e : [] ≡ x ∷ filter (λ n. key n == key x) xs = sym (same (key x)) ∙ with_key key x xs in cc
same_sorted key (x ∷ xs) (y ∷ ys) up_x up_y same =
    let key_same : key x ≡ key y = ⊎_elim (λ equal. equal) (λ differ. ⊎_elim
    (λ less. absurd (not_above key x y xs ys up_y (same (key x)) less))
    (λ more. absurd (not_above key y x ys xs up_x (sym (same (key y))) more)) differ) (cases_order (key x) (key y)) in
    let heads : x ∷ filter (λ n. key n == key x) xs ≡ y ∷ filter (λ n. key n == key x) ys =
    sym (with_key key x xs) ∙ (same (key x) ∙ filter_yes (λ n. key n == key x) y ys (eq-eqb (key y) (key x) (sym key_same))) in
    let first : x ≡ y = cc in
    let rest = same_sorted key xs ys (AllPairs-tail (λ m n. key m ≤ key n) x xs up_x) (AllPairs-tail (λ m n. key m ≤ key n) y ys up_y)
    (λ k. filter_rest (key x == k) x (filter (λ n. key n == k) xs) (filter (λ n. key n == k) ys)
    (same k ∙ ap (λ z. filter (λ n. key n == k) (z ∷ ys)) (sym first))) in
    cc

-- all orders together, sorted by point, where equal points keep their places
pub IsMergedOrder-from_sort : (calls : List Operation) (orders : List (List ℕ)) (merged : List ℕ) → AreDisjoint orders
    → All (AllPairs (λ m n. m ≢ n)) orders
    → IsPermutation (concat orders) merged → AllPairs (λ m n. point_of calls orders m ≤ point_of calls orders n) merged
    → ((place : ℕ) → filter (λ n. point_of calls orders n == place) merged ≡ filter (λ n. point_of calls orders n == place) (concat orders))
    → IsMergedOrder calls orders merged
IsMergedOrder-from_sort calls orders merged disjoint distinct same_calls by_point stable =
    record {
      same_calls = same_calls;
      by_point = by_point;
      by_place =
          All-from_contains (λ order. filter (has_number order) merged ≡ order) orders by_place;
    }
  where
    by_place : (order : List ℕ) → Contains orders order → filter (has_number order) merged ≡ order
    by_place order is =
        let has = has_number order in
        same_sorted (point_of calls orders) (filter has merged) order
        (AllPairs-filter (λ m n. point_of calls orders m ≤ point_of calls orders n) has merged by_point)
        (AllPairs-weaker (λ m n. point_in calls order m ≤ point_in calls order n)
        (λ m n. point_of calls orders m ≤ point_of calls orders n) order
        (λ m n m_is n_is le. omega (
          arith,
          le,
          point_of-in calls orders order m disjoint is m_is,
          point_of-in calls orders order n
              disjoint is n_is,
        ))
        (point_in-rises calls order (All-contains (AllPairs (λ m n. m ≢ n)) orders order distinct is)))
        (λ place. let at = λ (n : ℕ). point_of calls orders n == place in
        filter_comm at has merged
        ∙ (ap (filter has) (stable place) ∙ (filter_comm has at (concat orders) ∙ ap (filter at) (filter-concat orders order disjoint is))))
