-- The value at a key, and maps with a value put or a key removed, by the pairs that they contain.
use Rattle.art_schedules.proofs.Common.{◌≡◌, ℕ, ◌<◌, ◌≤◌, true, [], ◌∷◌, ◌++◌, refl, sym, ap, ◌∙◌, subst, ⊎_elim, inl}
use Rattle.art_schedules.proofs.Common.{inr, arith, eq-eqb, cases_lt, All-contains, Contains-append_left, Contains-append_right}
use Rattle.art_schedules.proofs.Common.{Contains-append_cases, AllPairs-filter, AllPairs-head, AllPairs-tail, AllPairs-append, All-from_contains}
use Rattle.art_schedules.proofs.Common.{Contains-first, Contains-later, Contains-nil, Contains-cases, Contains-filter, Contains-from_filter}
use Rattle.art_schedules.proofs.Common.{Contents, IsRising, value_at, put, above}
use Rattle.std.proofs.Common.{nat_lt, All, Contains, ne_eqb, ltb-true, if◌then◌else◌, None, Some}
use Rattle.std.specs.Prelude.{◌⊎◌, ◌≢◌}
use Rattle.map_object.specs.MapObject.{below}
use Rattle.map_object.proofs.MapLemmas.{IsRising-insert}

-- a key that no pair has is absent
pub no_value : (m : Contents) (key : ℕ) → ((value : ℕ) → Contains m (key, value) → ⊥) → value_at m key ≡ None
no_value [] key none = refl
no_value ((k, v) ∷ m) key none =
    let other : k ≢ key = λ same. none v (subst (λ j. Contains ((k, v) ∷ m) (j, v)) same (Contains-first (k, v) m)) in
    ap (λ t. if t then Some v else value_at m key) (ne_eqb k key other)
    ∙ no_value m key (λ value is. none value (Contains-later (k, v) m (key, value) is))

-- the value of a pair of a map
pub value_of : (m : Contents) (key value : ℕ) → IsRising m → Contains m (key, value) → value_at m key ≡ Some value
value_of [] key value rising is = absurd (Contains-nil (key, value) is)
value_of ((k, v) ∷ m) key value rising is = ⊎_elim
    (λ (same : (k, v) ≡ (key, value)).
    ap (λ t. if t then Some v else value_at m key) (eq-eqb k key (ap (λ (p : ℕ × ℕ). p.0) same)) ∙ ap (λ (p : ℕ × ℕ). Some p.1) same)
    (λ later.
    let low : k < key = All-contains (λ (b : ℕ × ℕ). k < b.0) m (key, value) (AllPairs-head (λ (a : ℕ × ℕ) (b : ℕ × ℕ). a.0 < b.0) (k, v)
    m rising) later in
    let other : k ≢ key = λ same. omega (arith, same, low) in
    ap (λ t. if t then Some v else value_at m key) (ne_eqb k key other)
    ∙ value_of m key value (AllPairs-tail (λ (a : ℕ × ℕ) (b : ℕ × ℕ). a.0 < b.0) (k, v) m rising) later)
    (Contains-cases (k, v) m (key, value) is)

module _ (m : Contents) (key : ℕ) where
  -- pairs of other keys are below the key or above it
  others : (k v : ℕ) → k ≢ key → Contains m (k, v) → Contains (below key m) (k, v) ⊎ Contains (above key m) (k, v)
  others k v other is = ⊎_elim
      (λ less. inl (Contains-filter (λ (p : ℕ × ℕ). nat_lt p.0 key) m (k, v) is (grind (arith, less))))
      (λ most. inr (Contains-filter (λ (p : ℕ × ℕ). nat_lt key p.0) m (k, v) is (more most))) (cases_lt k key)
    where
      more : key ≤ k → nat_lt key k ≡ true
      more most = grind (arith, most, other)

  lower : (k v : ℕ) → Contains (below key m) (k, v) → (k ≢ key) × Contains m (k, v)
  lower k v is =
      let (kept, less) = Contains-from_filter (λ (p : ℕ × ℕ). nat_lt p.0 key) m (k, v) is in
      (λ same. omega (arith, same, ltb-true k key less), kept)

  higher : (k v : ℕ) → Contains (above key m) (k, v) → (k ≢ key) × Contains m (k, v)
  higher k v is =
      let (kept, less) = Contains-from_filter (λ (p : ℕ × ℕ). nat_lt key p.0) m (k, v) is in
      (λ same. omega (arith, same, ltb-true key k less), kept)

  -- without the key
  pub left_out : (k v : ℕ) → Contains (below key m ++ above key m) (k, v) → (k ≢ key) × Contains m (k, v)
  left_out k v is = ⊎_elim (λ low. lower k v low) (λ high. higher k v high) (Contains-append_cases (below key m) (above key m) (k, v) is)

  pub left_in : (k v : ℕ) → k ≢ key → Contains m (k, v) → Contains (below key m ++ above key m) (k, v)
  left_in k v other is = ⊎_elim
      (λ low. Contains-append_left (below key m) (above key m) (k, v) low)
      (λ high. Contains-append_right (below key m) (above key m) (k, v) high) (others k v other is)

  pub rising_without : IsRising m → IsRising (below key m ++ above key m)
  rising_without rising =
      AllPairs-append (λ (a : ℕ × ℕ) (b : ℕ × ℕ). a.0 < b.0) (below key m) (above key m)
      (AllPairs-filter (λ (a : ℕ × ℕ) (b : ℕ × ℕ). a.0 < b.0) (λ (pair : ℕ × ℕ). nat_lt pair.0 key) m rising)
      (AllPairs-filter (λ (a : ℕ × ℕ) (b : ℕ × ℕ). a.0 < b.0) (λ (pair : ℕ × ℕ). nat_lt key pair.0) m rising)
      (All-from_contains (λ (a : ℕ × ℕ). All (λ (b : ℕ × ℕ). a.0 < b.0) (above key m)) (below key m)
      (λ a is. All-from_contains (λ (b : ℕ × ℕ). a.0 < b.0) (above key m)
      (λ b also.
      let low = ltb-true a.0 key (Contains-from_filter (λ (p : ℕ × ℕ). nat_lt p.0 key) m a is).1 in
      let high = ltb-true key b.0 (Contains-from_filter (λ (p : ℕ × ℕ). nat_lt key p.0) m b also).1 in
      omega (arith, low, high))))

  -- with a value at the key
  pub put_at : (value k v : ℕ) → Contains (put key value m) (k, v) → ((k ≡ key) × (v ≡ value)) ⊎ ((k ≢ key) × Contains m (k, v))
  put_at value k v is = ⊎_elim
      (λ low. inr (lower k v low))
      (λ rest. ⊎_elim
      (λ (same : (key, value) ≡ (k, v)). inl (sym (ap (λ (p : ℕ × ℕ). p.0) same), sym (ap (λ (p : ℕ × ℕ). p.1) same)))
      (λ high. inr (higher k v high)) (Contains-cases (key, value) (above key m) (k, v) rest))
      (Contains-append_cases (below key m) ((key, value) ∷ above key m) (k, v) is)

  pub put_here : (value : ℕ) → Contains (put key value m) (key, value)
  put_here value = Contains-append_right (below key m) ((key, value) ∷ above key m) (key, value) (Contains-first (key, value) (above key m))

  pub put_other : (value k v : ℕ) → k ≢ key → Contains m (k, v) → Contains (put key value m) (k, v)
  put_other value k v other is = ⊎_elim
      (λ low. Contains-append_left (below key m) ((key, value) ∷ above key m) (k, v) low)
      (λ high. Contains-append_right (below key m) ((key, value) ∷ above key m) (k, v)
      (Contains-later (key, value) (above key m) (k, v) high))
      (others k v other is)

  pub rising_with : (value : ℕ) → IsRising m → IsRising (put key value m)
  rising_with value rising = IsRising-insert m rising key value
