-- How often a process is in all views together.
use Rattle.running.proofs.Common.{◌≡◌, ℕ, zero, suc, ◌+◌, ◌≤◌, ◌≢◌, List, [], ◌∷◌, set, sym, refl, ap, arith, sum_by, sum_by-cons, Noted}
use mathlib.Core.Option.{some, some-injective, some-ne-none}
use lib.ListN.{get_elem?}

module _ (f : Noted → ℕ) where
  -- the sum after one view was replaced
  pub sum-set : (l : List Noted) (i : ℕ) (v w : Noted) → get_elem? l i ≡ some v → sum_by f (set l i w) + f v ≡ sum_by f l + f w
  sum-set [] i v w e = absurd (some-ne-none v (sym e))
  sum-set (x ∷ xs) zero v w e =
      let is : f x ≡ f v = ap f (some-injective x v e) in let new = sum_by-cons f w xs in let old = sum_by-cons f x xs in omega arith
  sum-set (x ∷ xs) (suc i) v w e =
      let r = sum-set xs i v w e in let new = sum_by-cons f x (set xs i w) in let old = sum_by-cons f x xs in omega arith

  -- one view is within the sum
  pub sum-one : (l : List Noted) (i : ℕ) (v : Noted) → get_elem? l i ≡ some v → f v ≤ sum_by f l
  sum-one [] i v e = absurd (some-ne-none v (sym e))
  sum-one (x ∷ xs) zero v e = let is : f x ≡ f v = ap f (some-injective x v e) in let all = sum_by-cons f x xs in omega arith
  sum-one (x ∷ xs) (suc i) v e = let r = sum-one xs i v e in let all = sum_by-cons f x xs in omega arith

  -- two views together are within the sum
  pub sum-two : (l : List Noted) (i j : ℕ) (v w : Noted) → i ≢ j → get_elem? l i ≡ some v → get_elem? l j ≡ some w → f v + f w ≤ sum_by f l
  sum-two [] i j v w n e d = absurd (some-ne-none v (sym e))
  sum-two (x ∷ xs) zero zero v w n e d = absurd (n refl)
  sum-two (x ∷ xs) zero (suc j) v w n e d =
      let is : f x ≡ f v = ap f (some-injective x v e) in let r = sum-one xs j w d in let all = sum_by-cons f x xs in omega arith
  sum-two (x ∷ xs) (suc i) zero v w n e d =
      let is : f x ≡ f w = ap f (some-injective x w d) in let r = sum-one xs i v e in let all = sum_by-cons f x xs in omega arith
  sum-two (x ∷ xs) (suc i) (suc j) v w n e d = let r = sum-two xs i j v w (λ h. n (ap suc h)) e d in let all =
      sum_by-cons f x xs in omega arith
