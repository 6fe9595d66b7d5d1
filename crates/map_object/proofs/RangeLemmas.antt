-- The pairs of a range of keys, between two partition points.
use Rattle.std.proofs.Common.{◌≡◌, ℕ, zero, suc, ◌+◌, nat_lt, nat_le, Bool, true, false, List, [], ◌∷◌, filter, get_or, take, drop, refl}
use Rattle.std.proofs.Common.{ap, arith}
use Rattle.std.specs.List.Sorted.{IsPartitionPoint, IsNonDecreasingBy}
use Rattle.std.proofs.lemmas.List.{get_or-drop, length-drop}
use Rattle.std.proofs.lemmas.Bool.Decides.{nat_tests}
use Rattle.map_object.specs.MapObject.{Contents, IsRising, within}

-- i parts the list: what comes before it passes p, and what comes from it on fails
abbrev pub PartsAt : {X : Type 0} → (X → Bool) → List X → ℕ → Type 0
PartsAt p xs i = IsPartitionPoint (λ y. p y ≡ true) (λ y. p y ≡ false) xs i

-- the rest of a parted list
PartsAt-tail : {X : Type 0} (p : X → Bool) (x : X) (xs : List X) (i : ℕ) → PartsAt p (x ∷ xs) (suc i) → PartsAt p xs i
PartsAt-tail p x xs i h = (λ k d low lt. h.0 (suc k) d (omega arith) (omega arith), λ k d le lt. h.1 (suc k) d (omega arith) (omega arith))

PartsAt-rest : {X : Type 0} (p : X → Bool) (x : X) (xs : List X) → PartsAt p (x ∷ xs) 0 → PartsAt p xs 0
PartsAt-rest p x xs h = (λ k d low lt. absurd (omega arith), λ k d le lt. h.1 (suc k) d (omega arith) (omega arith))

-- what passes is the front
filter_parted : {X : Type 0} (p : X → Bool) (xs : List X) (i : ℕ) → PartsAt p xs i → filter p xs ≡ take i xs
filter_parted p [] zero h = refl
filter_parted p [] (suc i) h = refl
filter_parted p (x ∷ xs) zero h = rw (h.1 0 x (omega arith) (omega arith)) (filter_parted p xs 0 (PartsAt-rest p x xs h))
filter_parted {X = X} p (x ∷ xs) (suc i) h =
    rw (h.0 0 x (omega arith) (omega arith)) (ap (λ (l : List X). x ∷ l) (filter_parted p xs i (PartsAt-tail p x xs i h)))

-- a range lies after the pairs below its first key
within_from : (low high : ℕ) (m : Contents) (from : ℕ) → PartsAt (λ pair. nat_lt pair.0 low) m from
    → within low high m ≡ filter (λ pair. nat_le pair.0 high) (drop from m)
within_from low high [] zero h = refl
within_from low high [] (suc from) h = refl
within_from low high (pair ∷ m) zero h =
    grind (
      arith,
      nat_tests,
      h.1 0 pair (omega arith) (omega arith),
      within_from low high m 0
          (PartsAt-rest (λ (p : ℕ × ℕ). nat_lt p.0 low) pair m h),
    )
within_from low high (pair ∷ m) (suc from) h =
    grind (
      arith,
      nat_tests,
      h.0 0 pair (omega arith) (omega arith),
      within_from low high m from
          (PartsAt-tail (λ (p : ℕ × ℕ). nat_lt p.0 low) pair m from h),
    )

-- a range ends before the pairs above its last key
pub range_is : (low high : ℕ) (m : Contents) (from count : ℕ) → PartsAt (λ pair. nat_lt pair.0 low) m from
    → PartsAt (λ pair. nat_le pair.0 high) (drop from m) count → take count (drop from m) ≡ within low high m
range_is low high m from count below upto =
    rw (within_from low high m from below, filter_parted (λ (pair : ℕ × ℕ). nat_le pair.0 high) (drop from m) count upto) refl

-- rising keys do not fall, from any place on either
pub keys_rise : (m : Contents) → IsRising m → IsNonDecreasingBy (λ pair. pair.0) m
keys_rise m rising i j d le in_range = grind (arith, rising i j d, λ (same : i ≡ j). ap (λ (k : ℕ). (get_or m k d).0) same)

pub keys_rise_from : (m : Contents) (from : ℕ) → IsRising m → IsNonDecreasingBy (λ pair. pair.0) (drop from m)
keys_rise_from m from rising i j d le in_range =
    rw (get_or-drop from m i d, get_or-drop from m j d)
    (keys_rise m rising (from + i) (from + j) d (omega arith) (omega (arith, length-drop from m)))
