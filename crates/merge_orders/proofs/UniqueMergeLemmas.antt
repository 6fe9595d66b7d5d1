-- There is one merged order: no two orders share a point, and points and places decide the rest.
use Rattle.merge_orders.proofs.Common.{◌≡◌, ℕ, ◌<◌, ◌≤◌, List, [], ◌∷◌, length, filter, Some, refl, sym, ap, ◌∙◌, subst, ⊎_elim, arith}
use Rattle.merge_orders.proofs.Common.{slice_get, All, AllPairs, Contains, concat, All-head, All-tail, All-contains, IsPermutation-sym}
use Rattle.merge_orders.proofs.Common.{Contains-permutation, Operation, has_number, point_of, IsMergedOrder, AllPairs-head, AllPairs-tail}
use Rattle.merge_orders.proofs.Common.{Contains-cases, Contains-first, All-from_contains, slice_get-below, has_number-from_Contains, filter_rest}
use Rattle.merge_orders.proofs.Common.{Contains-from_filter}
use Rattle.std.proofs.lemmas.Bool.{cases_eq}
use Rattle.events.proofs.TimeLemmas.{same_number}
use Rattle.merge_orders.proofs.PointLemmas.{point_in-is, point_of-is, Contains-from_up_to}
use Rattle.merge_orders.proofs.MergeLemmas.{Contains-from_concat}
use Rattle.merge_orders.proofs.DisjointLemmas.{AreDisjoint, AreDisjoint-from_merged, same_order}

-- each call is invoked after those with smaller numbers, as in each history
abbrev pub InvocationsRise : List Operation → Type 0
InvocationsRise calls = AllPairs (λ a b. a.inv < b.inv) calls

-- two orders never share a point
pub same_order-from_point : (calls : List Operation) (orders : List (List ℕ)) (order other : List ℕ) (m n : ℕ) → InvocationsRise calls
    → All (λ order. All (λ n. n < length calls) order) orders → AreDisjoint orders → Contains orders order → Contains orders other
    → Contains order m
    → Contains other n
    → point_of calls orders m ≡ point_of calls orders n → order ≡ other
same_order-from_point calls orders order other m n rise known disjoint order_is other_is m_is n_is same =
    let at_m = point_of-is calls orders order m order_is m_is in
    let at_n = point_of-is calls orders other n other_is n_is in
    let (a, m_here) = known_call order m order_is m_is in
    let (b, n_here) = known_call other n other_is n_is in
    let p = point_in-is calls at_m.order m a at_m.number m_here in
    let q = point_in-is calls at_n.order n b at_n.number n_here in
    let inv_same : p.call.inv ≡ q.call.inv = sym p.point ∙ (sym at_m.point ∙ (same ∙ (at_n.point ∙ q.point))) in
    let number_same = same_number calls p.number q.number p.call q.call rise p.here q.here inv_same in
    let p_in = Contains-from_up_to m at_m.order p.number p.up_to_it in
    let q_in = Contains-from_up_to n at_n.order q.number q.up_to_it in
    same_order orders order at_m.order m disjoint order_is at_m.is m_is at_m.number
    ∙ (same_order orders at_m.order at_n.order q.number disjoint at_m.is at_n.is (subst (Contains at_m.order) number_same p_in) q_in
    ∙ same_order orders at_n.order other n disjoint at_n.is other_is at_n.number n_is)
  where
    known_call : (order : List ℕ) (n : ℕ) → Contains orders order → Contains order n → (a : Operation) × (slice_get calls n ≡ Some a)
    known_call order n order_is is =
        slice_get-below calls n
        (All-contains (λ n. n < length calls) order n
        (All-contains (λ order. All (λ n. n < length calls) order) orders order known order_is) is)

-- a number is in one of the orders
abbrev IsInOne : List (List ℕ) → ℕ → Type 0
IsInOne orders n = (order : List ℕ) × Contains orders order × Contains order n

-- an order keeps a first number that it has
filter_first : (order : List ℕ) (n : ℕ) (rest : List ℕ) → Contains order n
    → filter (has_number order) (n ∷ rest) ≡ n ∷ filter (has_number order) rest
filter_first order n rest is = rw (has_number-from_Contains order n is) refl

-- numbers of lists that begin alike, where each order begins alike
module _ (key : ℕ → ℕ) (orders : List (List ℕ))
    (apart : (order other : List ℕ) (m n : ℕ) → Contains orders order → Contains orders other → Contains order m
    → Contains other n → key m ≡ key n
    → order ≡ other) where
  -- the first number of the one list is that of the other
  same_first : (x y : ℕ) (xs ys : List ℕ) → AllPairs (λ m n. key m ≤ key n) (x ∷ xs) → AllPairs (λ m n. key m ≤ key n) (y ∷ ys)
      → IsInOne orders x
      → IsInOne orders y
      → ((order : List ℕ) → Contains orders order → filter (has_number order) (x ∷ xs) ≡ filter (has_number order) (y ∷ ys)) → x ≡ y
  same_first x y xs ys up_x up_y (order, order_is, x_is) (other, other_is, y_is) same = ⊎_elim (λ equal. equal)
      (λ differ.
      let x_among : Contains (y ∷ ys) x =
      (Contains-from_filter (has_number order) (y ∷ ys) x
      (subst (λ ns. Contains ns x) (sym (filter_first order x xs x_is) ∙ same order order_is)
      (Contains-first x (filter (has_number order) xs)))).0 in
      let y_among : Contains (x ∷ xs) y =
      (Contains-from_filter (has_number other) (x ∷ xs) y
      (subst (λ ns. Contains ns y) (sym (filter_first other y ys y_is) ∙ sym (same other other_is))
      (Contains-first y (filter (has_number other) ys)))).0 in
      let x_later : Contains ys x = ⊎_elim (λ equal. absurd (differ (sym equal))) (λ later. later) (Contains-cases y ys x x_among) in
      let y_later : Contains xs y = ⊎_elim (λ equal. absurd (differ equal)) (λ later. later) (Contains-cases x xs y y_among) in
      let y_first = All-contains (λ n. key y ≤ key n) ys x (AllPairs-head (λ m n. key m ≤ key n) y ys up_y) x_later in
      let x_first = All-contains (λ n. key x ≤ key n) xs y (AllPairs-head (λ m n. key m ≤ key n) x xs up_x) y_later in
      let one = apart order other x y order_is other_is x_is y_is (omega arith) in
      let heads : x ∷ filter (has_number order) xs ≡ y ∷ filter (has_number order) ys =
      sym (filter_first order x xs x_is) ∙ (same order order_is ∙ filter_first order y ys (subst (λ o. Contains o y) (sym one) y_is)) in
      cc) (cases_eq x y)

  -- lists that rise by point and have each order alike are one
  same_merged : (xs ys : List ℕ) → AllPairs (λ m n. key m ≤ key n) xs → AllPairs (λ m n. key m ≤ key n) ys → All (IsInOne orders) xs
      → All (IsInOne orders) ys
      → ((order : List ℕ) → Contains orders order → filter (has_number order) xs ≡ filter (has_number order) ys) → xs ≡ ys
  same_merged [] [] up_x up_y in_x in_y same = refl
  same_merged [] (y ∷ ys) up_x up_y in_x in_y same =
      let (order, is, number) = All-head (IsInOne orders) y ys in_y in
      let e : [] ≡ y ∷ filter (has_number order) ys = same order is ∙ filter_first order y ys number in cc
  same_merged (x ∷ xs) [] up_x up_y in_x in_y same =
      let (order, is, number) = All-head (IsInOne orders) x xs in_x in
      let e : [] ≡ x ∷ filter (has_number order) xs = sym (same order is) ∙ filter_first order x xs number in cc
  same_merged (x ∷ xs) (y ∷ ys) up_x up_y in_x in_y same =
      let first = same_first x y xs ys up_x up_y (All-head (IsInOne orders) x xs in_x) (All-head (IsInOne orders) y ys in_y) same in
      let rest =
      same_merged xs ys (AllPairs-tail (λ m n. key m ≤ key n) x xs up_x) (AllPairs-tail (λ m n. key m ≤ key n) y ys up_y)
      (All-tail (IsInOne orders) x xs in_x) (All-tail (IsInOne orders) y ys in_y)
      (λ order is. filter_rest (has_number order x) x (filter (has_number order) xs) (filter (has_number order) ys)
      (same order is ∙ ap (λ z. filter (has_number order) (z ∷ ys)) (sym first))) in
      cc

-- there is one merged order
pub merged_unique : (calls : List Operation) (orders : List (List ℕ)) (xs ys : List ℕ) → InvocationsRise calls
    → All (λ order. All (λ n. n < length calls) order) orders
    → IsMergedOrder calls orders xs → IsMergedOrder calls orders ys → xs ≡ ys
merged_unique calls orders xs ys rise known x y =
    same_merged (point_of calls orders) orders
    (λ order other m n order_is other_is m_is n_is same. same_order-from_point calls orders order other m n rise known
    (AreDisjoint-from_merged calls orders xs x) order_is other_is m_is n_is same) xs ys x.by_point y.by_point
    (in_one xs x) (in_one ys y)
    (λ order is. All-contains (λ order. filter (has_number order) xs ≡ order) orders order x.by_place is
    ∙ sym (All-contains (λ order. filter (has_number order) ys ≡ order) orders order y.by_place is))
  where
    in_one : (merged : List ℕ) → IsMergedOrder calls orders merged → All (IsInOne orders) merged
    in_one merged h =
        All-from_contains (IsInOne orders) merged
        (λ n is. Contains-from_concat orders n
        (Contains-permutation merged (concat orders) n (IsPermutation-sym (concat orders) merged h.same_calls) is))
