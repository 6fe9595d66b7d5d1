-- Putting processes at their places.
use Rattle.running.proofs.Common.{◌≡◌, ℕ, ◌+◌, Bool, true, false, List, [], ◌∷◌, ◌++◌, length, refl, ap, arith, if◌then◌else◌, nat_lt, placed, merge}

-- the last of the others goes first
pub merge-last : {A : Type 0} (xs ys : List (ℕ × A)) (y : ℕ × A) → merge xs (ys ++ y ∷ []) ≡ merge (placed y xs) ys
merge-last xs [] y = refl
merge-last xs (z ∷ zs) y = ap (placed z) (merge-last xs zs y)

placed-length : {A : Type 0} (x : ℕ × A) (xs : List (ℕ × A)) → length (placed x xs) ≡ length xs + 1
placed-length x [] = refl
placed-length x (y ∷ ys) = by-case (nat_lt x.0 y.0) (placed-length x ys)
  where
    by-case : (b : Bool) → length (placed x ys) ≡ length ys + 1 → length (if b then x ∷ y ∷ ys else y ∷ placed x ys) ≡ length (y ∷ ys) + 1
    by-case true e = omega arith
    by-case false e = omega arith

pub merge-length : {A : Type 0} (xs ys : List (ℕ × A)) → length (merge xs ys) ≡ length xs + length ys
merge-length xs [] = omega arith
merge-length xs (y ∷ ys) = let one = placed-length y (merge xs ys) in let more = merge-length xs ys in omega arith
