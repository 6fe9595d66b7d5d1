-- What a rising list of places with one more holds.
use Rattle.memo.proofs.Common.{◌≡◌, ℕ, ◌+◌, ◌<◌, true, List, ◌∷◌, sym, subst, inl, inr, ⊎_elim, arith, ◌⊎◌, ◌↔◌, filter, All, AllPairs, Contains}
use Rattle.memo.proofs.Common.{IsStrictlyIncreasing, All-weaker, All-cons, filter_passes, Contains-append_left, Contains-append_right}
use Rattle.memo.proofs.Common.{Contains-append_cases, AllPairs-cons, AllPairs-filter, AllPairs-from_increasing, cases_order, nat_tests}
use Rattle.memo.proofs.Common.{AllPairs-append, Contains-first, Contains-later, Contains-cases, Contains-filter, Contains-from_filter, with_place}
use Rattle.std.proofs.Common.{nat_lt}

-- a number below another passes the test
below_passes : (place n : ℕ) → n < place → nat_lt n place ≡ true
below_passes place n h = grind (arith, nat_tests)

-- a number that passes the test is below the other
below_from_passes : (place n : ℕ) → nat_lt n place ≡ true → n < place
below_from_passes place n h = grind (arith, nat_tests)

-- numbers of which each is below all later ones rise
increasing_from_AllPairs : (xs : List ℕ) → AllPairs (λ m n. m < n) xs → IsStrictlyIncreasing xs
increasing_from_AllPairs xs up k within = up k (k + 1) 0 (omega arith) within

module _ (taken : List ℕ) (place : ℕ) where
  abbrev below : List ℕ
  below = filter (λ n. nat_lt n place) taken

  abbrev above : List ℕ
  above = filter (λ n. nat_lt place n) taken

  -- a place of a list with one more is in the list or is the one
  with_place-from : (n : ℕ) → Contains (with_place taken place) n → Contains taken n ⊎ (n ≡ place)
  with_place-from n h = ⊎_elim
      (λ low. inl (Contains-from_filter (λ m. nat_lt m place) taken n low).0)
      (λ rest. ⊎_elim (λ is. inr (sym is)) (λ high. inl (Contains-from_filter (λ m. nat_lt place m) taken n high).0)
      (Contains-cases place above n rest))
      (Contains-append_cases below (place ∷ above) n h)

  -- the one is in the list with it
  with_place-new : (n : ℕ) → n ≡ place → Contains (with_place taken place) n
  with_place-new n is = subst (Contains (with_place taken place)) (sym is) (Contains-append_right below (place ∷ above) place
      (Contains-first place above))

  -- what was in the list still is
  with_place-old : (n : ℕ) → Contains taken n → Contains (with_place taken place) n
  with_place-old n h = ⊎_elim
      (λ is. with_place-new n is)
      (λ apart. ⊎_elim
      (λ low. Contains-append_left below (place ∷ above) n (Contains-filter (λ m. nat_lt m place) taken n h (below_passes place n low)))
      (λ high. Contains-append_right below (place ∷ above) n
      (Contains-later place above n (Contains-filter (λ m. nat_lt place m) taken n h (below_passes n place high))))
      apart)
      (cases_order n place)

  -- a list of places with one more holds those of the list and the one
  pub Contains-with_place : (n : ℕ) → Contains (with_place taken place) n ↔ (Contains taken n ⊎ (n ≡ place))
  Contains-with_place n = (with_place-from n, λ h. ⊎_elim (with_place-old n) (with_place-new n) h)

  -- a rising list with one more place rises
  pub with_place-rises : IsStrictlyIncreasing taken → IsStrictlyIncreasing (with_place taken place)
  with_place-rises rising = increasing_from_AllPairs (with_place taken place)
      (AllPairs-append (λ m n. m < n) below (place ∷ above)
      (AllPairs-filter (λ m n. m < n) (λ n. nat_lt n place) taken pairs)
      (AllPairs-cons (λ m n. m < n) place above high (AllPairs-filter (λ m n. m < n) (λ n. nat_lt place n) taken pairs))
      (All-weaker (λ n. n < place) (λ m. All (λ n. m < n) (place ∷ above))
      (λ m lt. All-cons (λ n. m < n) place above lt (All-weaker (λ n. place < n) (λ n. m < n) (λ n gt. omega arith) above high)) below low))
    where
      pairs : AllPairs (λ m n. m < n) taken
      pairs = AllPairs-from_increasing taken rising

      low : All (λ n. n < place) below
      low = All-weaker (λ n. nat_lt n place ≡ true) (λ n. n < place) (below_from_passes place) below
          (filter_passes (λ n. nat_lt n place) taken)

      high : All (λ n. place < n) above
      high = All-weaker (λ n. nat_lt place n ≡ true) (λ n. place < n) (λ n. below_from_passes n place) above
          (filter_passes (λ n. nat_lt place n) taken)
