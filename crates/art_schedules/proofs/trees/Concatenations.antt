-- Pairs that are found number by number, one list after another.
use Rattle.art_schedules.proofs.Common.{ℕ, zero, suc, ◌+◌, ◌<◌, ◌≤◌, sym, subst, ⊎_elim, arith, cases_eq, Contains-append_left}
use Rattle.art_schedules.proofs.Common.{Contains-append_right, Contains-append_cases, AllPairs-nil, AllPairs-append, Contains-nil}
use Rattle.art_schedules.proofs.Common.{All-from_contains, Contents, IsRising, numbers}
use Rattle.std.proofs.Common.{All, Contains, flat_map}

module _ (f : ℕ → Contents) where
  -- what is found is found at one of the numbers,
  pub found_from : (first n : ℕ) (p : ℕ × ℕ) → Contains (flat_map f (numbers first n)) p → (x : ℕ) × (first ≤ x) × (x < first + n)
      × Contains (f x) p
  found_from first zero p h = absurd (Contains-nil p h)
  found_from first (suc n) p h = ⊎_elim
      (λ here. (first, omega arith, omega arith, here))
      (λ later.
      let (x, low, high, is) = found_from (first + 1) n p later in
      (x, omega (arith, low), omega (arith, high), is)) (Contains-append_cases (f first) (flat_map f (numbers (first + 1) n)) p h)

  -- what is at one of the numbers is found
  pub found_at : (first n x : ℕ) (p : ℕ × ℕ) → first ≤ x → x < first + n → Contains (f x) p → Contains (flat_map f (numbers first n)) p
  found_at first zero x p low high is = absurd (omega (arith, low, high))
  found_at first (suc n) x p low high is = ⊎_elim
      (λ same. Contains-append_left (f first) (flat_map f (numbers (first + 1) n)) p (subst (λ y. Contains (f y) p) (sym same) is))
      (λ other. Contains-append_right (f first) (flat_map f (numbers (first + 1) n)) p
      (found_at (first + 1) n x p (omega (arith, low, other)) (omega (arith, high)) is)) (cases_eq first x)

  -- if each list rises, below those of the greater numbers, all of it rises
  pub found_rising : (first n : ℕ) → ((x : ℕ) → first ≤ x → x < first + n → IsRising (f x))
      → ((x y : ℕ) (p q : ℕ × ℕ) → first ≤ x → x < y → y < first + n → Contains (f x) p → Contains (f y) q → p.0 < q.0)
      → IsRising (flat_map f (numbers first n))
  found_rising first zero each across = AllPairs-nil (λ (a : ℕ × ℕ) (b : ℕ × ℕ). a.0 < b.0)
  found_rising first (suc n) each across =
      AllPairs-append (λ (a : ℕ × ℕ) (b : ℕ × ℕ). a.0 < b.0) (f first) (flat_map f (numbers (first + 1) n))
      (each first (omega arith) (omega arith))
      (found_rising (first + 1) n (λ x low high. each x (omega (arith, low)) (omega (arith, high)))
      (λ x y p q low less high. across x y p q (omega (arith, low)) less (omega (arith, high))))
      (All-from_contains (λ (a : ℕ × ℕ). All (λ (b : ℕ × ℕ). a.0 < b.0) (flat_map f (numbers (first + 1) n))) (f first)
      (λ p is. All-from_contains (λ (b : ℕ × ℕ). p.0 < b.0) (flat_map f (numbers (first + 1) n))
      (λ q also.
      let (y, low, high, there) = found_from (first + 1) n q also in
      across first y p q (omega arith) (omega (arith, low)) (omega (arith, high)) is there)))
