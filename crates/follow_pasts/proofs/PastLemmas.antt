-- Calls of pasts, by rising invocation.
use Rattle.follow_pasts.proofs.Common.{◌≡◌, ℕ, ◌+◌, ◌<◌, ◌≤◌, true, false, List, length, get_or, take, drop, sym, subst, arith, nat_lt, ⊎_elim, ◌≢◌}
use Rattle.follow_pasts.proofs.Common.{◌⊎◌, All, AllPairs, AllWithin, ltb-true, ltb-false, get_or-take, get_or-drop, length-drop, length-take}
use Rattle.follow_pasts.proofs.Common.{Operation, IsPlaceFor}
use Rattle.std.specs.List.Sorted.{IsNonDecreasingBy}

-- calls by rising invocation are so weakly
pub rising_weakly : (calls : List Operation) → AllPairs (λ x y. x.inv < y.inv) calls → IsNonDecreasingBy (λ x. x.inv) calls
rising_weakly calls rise i j d within there =
    ⊎_elim (λ (less : i < j). let h = rise i j d less there in omega arith)
    (λ (same : i ≡ j). subst (λ (k : ℕ). (get_or calls i d).inv ≤ (get_or calls k d).inv) same (omega arith))
    (le_cases i j within)
  where
    le_cases : (i j : ℕ) → i ≤ j → (i < j) ⊎ (i ≡ j)
    le_cases i j h = grind arith

-- the calls before the place, and those from it on
pub less : (inv : ℕ) (calls : List Operation) (i : ℕ) → AllWithin (λ x. nat_lt x.inv inv ≡ true) calls 0 i
    → All (λ a. a.inv < inv) (take i calls)
less inv calls i h k d within =
    let short : k < i = omega (arith, length-take i calls) in
    subst (λ a. a.inv < inv) (sym (get_or-take i calls k d short))
    (ltb-true (get_or calls k d).inv inv (h k d (omega arith) short))

pub no_less : (inv : ℕ) (calls : List Operation) (i : ℕ) → AllWithin (λ x. nat_lt x.inv inv ≡ false) calls i (length calls)
    → All (λ a. inv ≤ a.inv) (drop i calls)
no_less inv calls i h k d within =
    let there : i + k < length calls = omega (arith, length-drop i calls) in
    subst (λ a. inv ≤ a.inv) (sym (get_or-drop i calls k d))
    (ltb-false (get_or calls (i + k) d).inv inv (h (i + k) d (omega arith) there))

-- a call of an invocation is at the place for it, or there is none
pub none_at : (inv : ℕ) (calls : List Operation) (place : ℕ) → IsPlaceFor calls inv place
    → (place < length calls → (d : Operation) → (get_or calls place d).inv ≢ inv) → AllPairs (λ x y. x.inv < y.inv) calls
    → All (λ a. a.inv ≢ inv) calls
none_at inv calls place is_place here rising k d within = by_order (cases k)
  where
    cases : (i : ℕ) → (i < place) ⊎ ((i ≡ place) ⊎ (place < i))
    cases i = grind arith

    early : k < place → (get_or calls k d).inv ≢ inv
    early before =
        let short : k < length (take place calls) = omega (arith, length-take place calls) in
        let less : (get_or calls k d).inv < inv =
        subst (λ (a : Operation). a.inv < inv) (get_or-take place calls k d before) (is_place.less k d short) in
        λ same. absurd (omega (arith, less, same))

    late : place < k → (get_or calls k d).inv ≢ inv
    late after =
        let more : (get_or calls place d).inv < (get_or calls k d).inv = rising place k d after within in
        let zero_more : place + 0 ≡ place = omega arith in
        let there : 0 < length (drop place calls) = omega (arith, length-drop place calls) in
        let up : inv ≤ (get_or calls place d).inv =
        subst (λ (n : ℕ). inv ≤ (get_or calls n d).inv) zero_more
        (subst (λ (a : Operation). inv ≤ a.inv) (get_or-drop place calls 0 d) (is_place.no_less 0 d there)) in
        λ same. absurd (omega (arith, more, up, same))

    by_order : (k < place) ⊎ ((k ≡ place) ⊎ (place < k)) → (get_or calls k d).inv ≢ inv
    by_order h = ⊎_elim early
        (λ rest. ⊎_elim (λ (same : k ≡ place). subst (λ (n : ℕ). (get_or calls n d).inv ≢ inv) (sym same) (here (omega (arith, same, within)) d)) late rest) h
