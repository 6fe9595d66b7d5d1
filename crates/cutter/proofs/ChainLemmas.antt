-- Ranges by rising low key hang together where each begins within the reach of those before it.
use Rattle.cutter.proofs.Common.{◌≡◌, ℕ, ◌+◌, ◌<◌, ◌≤◌, List, [], ◌∷◌, ◌++◌, length, get_or, map, max, take, drop, Some, sym, ap, ◌∙◌, subst, ⊎_elim}
use Rattle.cutter.proofs.Common.{arith, slice_get, All, Any, AllPairs, Contains, cases_lt, take_more, length-take, length-drop, get_or-drop}
use Rattle.cutter.proofs.Common.{All-contains, Contains-push, Contains-append_left, Contains-push_cases, same_Some, slice_get-get_or, greatest}
use Rattle.cutter.proofs.Common.{All-from_contains, AllPairs-at, place_before-Contains, greatest_bound, greatest_more, greatest_is, KeyRange}
use Rattle.cutter.proofs.Common.{GoesOver, AreChained, AreApart}

-- the greatest key that ranges reach
abbrev pub reach_of : List KeyRange → ℕ
reach_of ranges = greatest (map (λ r. r.high) ranges)

-- ranges by rising low key
abbrev pub RiseByLow : List KeyRange → Type 0
RiseByLow ranges = AllPairs (λ r s. r.low ≤ s.low) ranges

-- an element with a property
pub Any-from_contains : {X : Type 0} (P : X → Type 0) (xs : List X) (x : X) → Contains xs x → P x → Any P xs
Any-from_contains P xs x is h = (is.0, x, is.1, is.2, h)

-- one more range, which begins within the reach of those before it
AreChained-push : (xs : List KeyRange) (x : KeyRange) → All (λ r. r.low ≤ x.low) xs → (0 < length xs → x.low ≤ reach_of xs) → AreChained xs
    → AreChained (xs ++ x ∷ [])
AreChained-push xs x lower meets chained c (i, r, i_in, r_is, below) (j, s, j_in, s_is, above) =
    ⊎_elim r_in_xs (λ r_is_x. let low = ap (λ z. z.low) r_is_x in x_below (omega arith)) (Contains-push_cases xs x r (i, i_in, r_is))
  where
    in_xs : (z : KeyRange) → Contains xs z → z.low < c → c ≤ z.high → Any (GoesOver c) (xs ++ x ∷ [])
    in_xs z is low high = Any-from_contains (GoesOver c) (xs ++ x ∷ []) z (Contains-append_left xs (x ∷ []) z is) (low, high)

    goes_over_x : x.low < c → c ≤ x.high → Any (GoesOver c) (xs ++ x ∷ [])
    goes_over_x low high = Any-from_contains (GoesOver c) (xs ++ x ∷ []) x (Contains-push xs x) (low, high)

    x_below : x.low < c → Any (GoesOver c) (xs ++ x ∷ [])
    x_below low = ⊎_elim
        (λ s_in. in_xs s s_in (let lower_s = All-contains (λ z. z.low ≤ x.low) xs s lower s_in in omega arith) above)
        (λ s_is_x. let high = ap (λ z. z.high) s_is_x in goes_over_x low (omega arith)) (Contains-push_cases xs x s (j, j_in, s_is))

    both_in_xs : (z : KeyRange) → Contains xs r → Contains xs z → c ≤ z.high → Any (GoesOver c) (xs ++ x ∷ [])
    both_in_xs z r_in z_in high =
        let over = chained c (Any-from_contains (λ y. y.low < c) xs r r_in below) (Any-from_contains (λ y. c ≤ y.high) xs z z_in high) in
        in_xs over.1 (over.0, over.2, over.3) over.4.0 over.4.1

    r_in_xs : Contains xs r → Any (GoesOver c) (xs ++ x ∷ [])
    r_in_xs r_in = ⊎_elim (λ s_in. both_in_xs s r_in s_in above)
        (λ s_is_x. let high = ap (λ z. z.high) s_is_x in
        let (top, top_in, top_is) = greatest_is (λ z. z.high) xs r r_in in
        ⊎_elim (λ beyond. goes_over_x (let meet = meets (let within = r_in.1 in omega arith) in omega arith) (omega arith))
        (λ within. both_in_xs top r_in top_in (omega arith)) (cases_lt (reach_of xs) c)) (Contains-push_cases xs x s (j, j_in, s_is))

-- the walk before a place: the ranges so far hang together, and this is the greatest key that they reach
pub record IsWalked (ranges : List KeyRange) (place reach : ℕ) : Type 0 where
  pub chained : AreChained (take place ranges)
  pub reach_is : reach ≡ reach_of (take place ranges)

-- the range at a place begins at or above those before it
lower_before : (ranges : List KeyRange) (i : ℕ) (x : KeyRange) → RiseByLow ranges → slice_get ranges i ≡ Some x
    → All (λ r. r.low ≤ x.low) (take i ranges)
lower_before ranges i x sorted here =
    All-from_contains (λ r. r.low ≤ x.low) (take i ranges)
    (λ r is. let (j, before, at) = place_before-Contains ranges i r is in AllPairs-at (λ r s. r.low ≤ s.low) ranges j i r x
    sorted before at here)

-- the walk goes on to a range that begins within its reach; the first one may begin anywhere
pub IsWalked-more : (ranges : List KeyRange) (place reach : ℕ) (d : KeyRange) → RiseByLow ranges → place < length ranges
    → (0 < place → (get_or ranges place d).low ≤ reach) → IsWalked ranges place reach
    → IsWalked ranges (place + 1) (max reach (get_or ranges place d).high)
IsWalked-more ranges i reach d sorted within meets h =
    let x = get_or ranges i d in
    let further = greatest_more (λ r. r.high) ranges i d within in
    record {
      chained =
          subst AreChained (sym (take_more ranges i d within))
          (AreChained-push (take i ranges) x (lower_before ranges i x sorted (slice_get-get_or ranges i d within))
          (λ some. omega (arith, h.reach_is, meets (omega (arith, length-take i ranges)))) h.chained);
      reach_is = rw (h.reach_is, further);
    }

-- what is in the part from a place on is there or later
place_from-Contains : (ranges : List KeyRange) (i : ℕ) (s : KeyRange) → Contains (drop i ranges) s → (j : ℕ) × (i ≤ j)
    × (slice_get ranges j ≡ Some s)
place_from-Contains ranges i s (k, within, is) = (
  i + k,
  omega arith,
  slice_get-get_or ranges (i + k) s (omega (arith, length-drop i ranges))
      ∙ ap Some (sym (get_or-drop i ranges k s) ∙ is),
)

-- the range at a place begins at or below those from there on
lower_after : (ranges : List KeyRange) (i : ℕ) (x s : KeyRange) → RiseByLow ranges → slice_get ranges i ≡ Some x
    → Contains (drop i ranges) s → x.low ≤ s.low
lower_after ranges i x s sorted here is =
    let (j, after, at) = place_from-Contains ranges i s is in
    ⊎_elim (λ later. AllPairs-at (λ r s. r.low ≤ s.low) ranges i j x s sorted later here at)
    (λ same. let j_is : i ≡ j = omega arith in let one =
    ap (λ z. z.low) (same_Some x s (sym here ∙ (ap (slice_get ranges) j_is ∙ at))) in omega arith)
    (cases_lt i j)

-- the walk stops at a range that begins beyond its reach: those before it end below all others
pub AreApart-from_walk : (ranges : List KeyRange) (place reach : ℕ) (d : KeyRange) → RiseByLow ranges → place < length ranges
    → reach < (get_or ranges place d).low → IsWalked ranges place reach
    → AreApart (take place ranges) (drop place ranges)
AreApart-from_walk ranges i reach d sorted within beyond h =
    All-from_contains (λ r. All (λ s. r.high < s.low) (drop i ranges)) (take i ranges)
    (λ r r_in. All-from_contains (λ s. r.high < s.low) (drop i ranges) (λ s s_in.
    omega (
      arith,
      h.reach_is,
      greatest_bound (λ z. z.high) (take i ranges) r r_in,
      lower_after ranges i (get_or ranges i d) s sorted (slice_get-get_or ranges i d within) s_in,
    )))
