-- Numbers in a row.
use Rattle.art_schedules.proofs.Common.{ℕ, zero, suc, ◌+◌, ◌<◌, ◌≤◌, ◌∷◌, subst, arith, ⊎_elim, AllPairs, Contains, AllPairs-cons, AllPairs-nil}
use Rattle.art_schedules.proofs.Common.{Contains-first, Contains-later, Contains-nil, Contains-cases, All-from_contains, numbers}
use Rattle.std.proofs.Math.Nat.{eq-or-lt_of_le}

pub Contains-numbers : (first n x : ℕ) → first ≤ x → x < first + n → Contains (numbers first n) x
Contains-numbers first zero x low high = absurd (omega (arith, low, high))
Contains-numbers first (suc n) x low high =
    ⊎_elim (λ is. subst (λ y. Contains (first ∷ numbers (first + 1) n) y) is (Contains-first first (numbers (first + 1) n)))
    (λ more. Contains-later first (numbers (first + 1) n) x (Contains-numbers (first + 1) n x (omega (arith, more)) (omega (arith, high))))
    (eq-or-lt_of_le low)

pub Contains-from_numbers : (first n x : ℕ) → Contains (numbers first n) x → (first ≤ x) × (x < first + n)
Contains-from_numbers first zero x h = absurd (Contains-nil x h)
Contains-from_numbers first (suc n) x h =
    ⊎_elim (λ is. (omega (arith, is), omega (arith, is)))
    (λ later. (let r = Contains-from_numbers (first + 1) n x later in (omega (arith, r.0), omega (arith, r.1))))
    (Contains-cases first (numbers (first + 1) n) x h)

pub numbers-rise : (first n : ℕ) → AllPairs (λ a b. a < b) (numbers first n)
numbers-rise first zero = AllPairs-nil (λ a b. a < b)
numbers-rise first (suc n) =
    AllPairs-cons (λ a b. a < b) first (numbers (first + 1) n)
    (All-from_contains (λ b. first < b) (numbers (first + 1) n) (λ b h. omega (arith, (Contains-from_numbers (first + 1) n b h).0)))
    (numbers-rise (first + 1) n)
