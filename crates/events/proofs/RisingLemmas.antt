-- Laws of rising lists of numbers.
use Rattle.events.proofs.Common.{◌≡◌, ℕ, ◌+◌, ◌<◌, List, [], ◌∷◌, refl, sym, ap, ◌∙◌, subst, ⊎_elim, arith, ◌↔◌, All, AllPairs, Contains}
use Rattle.events.proofs.Common.{range_with_len, IsStrictlyIncreasing, length-range_with_len, get_or-range_with_len, All-contains}
use Rattle.events.proofs.Common.{AllPairs-from_increasing}
use Rattle.events.proofs.Lists.{AllPairs-head, AllPairs-tail, Contains-first, Contains-later, Contains-nil, Contains-cases}

-- the first of two lists that rise and have the same members is the same
same_first : (x : ℕ) (xs : List ℕ) (y : ℕ) (ys : List ℕ) → All (λ n. x < n) xs → All (λ n. y < n) ys → Contains (y ∷ ys) x
    → Contains (x ∷ xs) y → x ≡ y
same_first x xs y ys low_x low_y in_ys in_xs =
    ⊎_elim (λ is. sym is) (λ later. ⊎_elim (λ is. is) (λ back. clash later back) (Contains-cases x xs y in_xs))
    (Contains-cases y ys x in_ys)
  where
    clash : Contains ys x → Contains xs y → x ≡ y
    clash later back = absurd (omega (arith, All-contains (λ n. y < n) ys x low_y later, All-contains (λ n. x < n) xs y low_x back))

-- the members of a rising list after its first are those of another with the same first
members_after : (x : ℕ) (xs ys : List ℕ) → All (λ n. x < n) xs → ((n : ℕ) → Contains (x ∷ xs) n → Contains (x ∷ ys) n) → (n : ℕ)
    → Contains xs n → Contains ys n
members_after x xs ys low same n h =
    ⊎_elim (λ is. absurd (omega (arith, is, All-contains (λ n. x < n) xs n low h))) (λ later. later)
    (Contains-cases x ys n (same n (Contains-later x xs n h)))

-- two rising lists of numbers with the same members are the same
unique_by_pairs : (xs ys : List ℕ) → AllPairs (λ m n. m < n) xs → AllPairs (λ m n. m < n) ys → ((n : ℕ) → Contains xs n → Contains ys n)
    → ((n : ℕ) → Contains ys n → Contains xs n) → xs ≡ ys
unique_by_pairs [] [] up_x up_y to from = refl
unique_by_pairs [] (y ∷ ys) up_x up_y to from = absurd (Contains-nil y (from y (Contains-first y ys)))
unique_by_pairs (x ∷ xs) [] up_x up_y to from = absurd (Contains-nil x (to x (Contains-first x xs)))
unique_by_pairs (x ∷ xs) (y ∷ ys) up_x up_y to from =
    let low_x = AllPairs-head (λ m n. m < n) x xs up_x in
    let low_y = AllPairs-head (λ m n. m < n) y ys up_y in
    let one = same_first x xs y ys low_x low_y (to x (Contains-first x xs)) (from y (Contains-first y ys)) in
    let low = subst (λ k. All (λ n. k < n) ys) (sym one) low_y in
    let rest = unique_by_pairs xs ys (AllPairs-tail (λ m n. m < n) x xs up_x) (AllPairs-tail (λ m n. m < n) y ys up_y)
    (members_after x xs ys low_x (λ n h. subst (λ k. Contains (k ∷ ys) n) (sym one) (to n h)))
    (members_after x ys xs low (λ n h. from n (subst (λ k. Contains (k ∷ ys) n) one h))) in
    ap (λ k. k ∷ xs) one ∙ ap (λ zs. y ∷ zs) rest

-- a rising list is determined by its members
pub rising_unique : (xs ys : List ℕ) → IsStrictlyIncreasing xs → IsStrictlyIncreasing ys
    → ((n : ℕ) → Contains xs n ↔ Contains ys n) → xs ≡ ys
rising_unique xs ys up_x up_y same =
    unique_by_pairs xs ys (AllPairs-from_increasing xs up_x) (AllPairs-from_increasing ys up_y) (λ n h. (same n).0 h) (λ n h. (same n).1 h)

-- the numbers below n rise
pub IsStrictlyIncreasing-range : (n : ℕ) → IsStrictlyIncreasing (range_with_len 0 n)
IsStrictlyIncreasing-range n k within =
    omega (
      arith,
      length-range_with_len 0 n,
      get_or-range_with_len 0 n k 0 (omega (arith, within, length-range_with_len 0 n)),
      get_or-range_with_len 0 n (k + 1) 0 (omega (arith, within, length-range_with_len 0 n)),
    )
