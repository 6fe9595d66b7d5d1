-- The map by the place of a key among its pairs, and the order of its keys after each call.
use Rattle.std.proofs.Common.{◌≡◌, ℕ, suc, ◌<◌, slice_index_or, nat_lt, [], ◌∷◌, ◌++◌, Some, None, refl, ◌∙◌, arith, ltb-true}
use Rattle.std.specs.List.{All}
use Rattle.std.proofs.lemmas.List.Elements.{All-append, All-cons, All-head, All-tail, filter-append, filter_passes}
use Rattle.std.proofs.lemmas.List.Kept.{AllPairs-cons, AllPairs-filter}
use Rattle.std.proofs.lemmas.List.{append-nil}
use Rattle.std.proofs.lemmas.Bool.Decides.{nat_tests}
use Rattle.map_object.specs.MapObject.{Contents, IsRising, value_at, below, above}

-- each key of the pairs is below this one
abbrev pub AreBelow : ℕ → Contents → Type 0
AreBelow key m = All (λ pair. pair.0 < key) m

-- each key of the pairs is above this one
abbrev pub AreAbove : ℕ → Contents → Type 0
AreAbove key m = All (λ pair. key < pair.0) m

-- pairs below a key are all below it, and none is above it
below_all : (key : ℕ) (m : Contents) → AreBelow key m → below key m ≡ m
below_all key [] h = refl
below_all key (pair ∷ m) h =
    grind (arith, nat_tests, All-head (λ (p : ℕ × ℕ). p.0 < key) pair m h, below_all key m (All-tail (λ (p : ℕ × ℕ). p.0 < key) pair m h))

above_none : (key : ℕ) (m : Contents) → AreBelow key m → above key m ≡ []
above_none key [] h = refl
above_none key (pair ∷ m) h =
    grind (arith, nat_tests, All-head (λ (p : ℕ × ℕ). p.0 < key) pair m h, above_none key m (All-tail (λ (p : ℕ × ℕ). p.0 < key) pair m h))

-- pairs above a key are all above it, and none is below it
pub above_all : (key : ℕ) (m : Contents) → AreAbove key m → above key m ≡ m
above_all key [] h = refl
above_all key (pair ∷ m) h =
    grind (arith, nat_tests, All-head (λ (p : ℕ × ℕ). key < p.0) pair m h, above_all key m (All-tail (λ (p : ℕ × ℕ). key < p.0) pair m h))

pub below_none : (key : ℕ) (m : Contents) → AreAbove key m → below key m ≡ []
below_none key [] h = refl
below_none key (pair ∷ m) h =
    grind (arith, nat_tests, All-head (λ (p : ℕ × ℕ). key < p.0) pair m h, below_none key m (All-tail (λ (p : ℕ × ℕ). key < p.0) pair m h))

-- a key that no pair has is not found, and a pair after others finds its value
pub value_at_above : (key : ℕ) (back : Contents) → AreAbove key back → value_at back key ≡ None
value_at_above key [] h = refl
value_at_above key (pair ∷ back) h =
    grind (
      arith,
      nat_tests,
      All-head (λ (p : ℕ × ℕ). key < p.0) pair back h,
      value_at_above key back
          (All-tail (λ (p : ℕ × ℕ). key < p.0) pair back h),
    )

value_at-append : (key : ℕ) (front back : Contents) → AreBelow key front → value_at (front ++ back) key ≡ value_at back key
value_at-append key [] back h = refl
value_at-append key (pair ∷ front) back h =
    grind (
      arith,
      nat_tests,
      All-head (λ (p : ℕ × ℕ). p.0 < key) pair front h,
      value_at-append key front back (All-tail (λ (p : ℕ × ℕ). p.0 < key) pair front h),
    )

-- pairs below a key, followed by pairs above it: the key is absent
module _ (key : ℕ) (front back : Contents) (lower : AreBelow key front) (higher : AreAbove key back) where
  pub below_gap : below key (front ++ back) ≡ front
  below_gap = rw (filter-append, below_all key front lower, below_none key back higher) (append-nil front)

  pub above_gap : above key (front ++ back) ≡ back
  above_gap = rw (filter-append, above_none key front lower, above_all key back higher) refl

  pub value_at_gap : value_at (front ++ back) key ≡ None
  value_at_gap = value_at-append key front back lower ∙ value_at_above key back higher

-- pairs below a key, a pair of the key, and pairs above it: the key is found there
module _ (key value : ℕ) (front back : Contents) (lower : AreBelow key front) (higher : AreAbove key back) where
  pub below_found : below key (front ++ (key, value) ∷ back) ≡ front
  below_found = rw (filter-append, below_all key front lower) (grind (arith, nat_tests, below_none key back higher, append-nil front))

  pub above_found : above key (front ++ (key, value) ∷ back) ≡ back
  above_found = rw (filter-append, above_none key front lower) (grind (arith, nat_tests, above_all key back higher))

  pub value_at_found : value_at (front ++ (key, value) ∷ back) key ≡ Some value
  value_at_found = rw (value_at-append key front ((key, value) ∷ back) lower) (grind (arith, nat_tests))

-- ---- the keys stay in order

-- the first key of rising pairs is below all others, which rise too
pub AreAbove-first : (pair : ℕ × ℕ) (m : Contents) → IsRising (pair ∷ m) → AreAbove pair.0 m
AreAbove-first pair m h k d within = h 0 (suc k) d (omega arith) (omega arith)

pub IsRising-rest : (pair : ℕ × ℕ) (m : Contents) → IsRising (pair ∷ m) → IsRising m
IsRising-rest pair m h i j d before within = h (suc i) (suc j) d (omega arith) (omega arith)

-- pairs by rising key, then others with greater keys
IsRising-append : (front back : Contents) → IsRising front → IsRising back → All (λ a. All (λ b. a.0 < b.0) back) front
    → IsRising (front ++ back)
IsRising-append [] back h k between = k
IsRising-append (pair ∷ front) back h k between =
    AllPairs-cons (λ (a : ℕ × ℕ) (b : ℕ × ℕ). a.0 < b.0) pair (front ++ back)
    (All-append (λ (b : ℕ × ℕ). pair.0 < b.0) front back (AreAbove-first pair front h)
    (All-head (λ (a : ℕ × ℕ). All (λ (b : ℕ × ℕ). a.0 < b.0) back) pair front between))
    (IsRising-append front back (IsRising-rest pair front h) k
    (All-tail (λ (a : ℕ × ℕ). All (λ (b : ℕ × ℕ). a.0 < b.0) back) pair front between))

module _ (m : Contents) (key : ℕ) where
  -- what `below` and `above` keep
  pub AreBelow-below : AreBelow key (below key m)
  AreBelow-below k d lt = ltb-true _ _ (filter_passes (λ (pair : ℕ × ℕ). nat_lt pair.0 key) m k d lt)

  pub AreAbove-above : AreAbove key (above key m)
  AreAbove-above k d lt = ltb-true _ _ (filter_passes (λ (pair : ℕ × ℕ). nat_lt key pair.0) m k d lt)

module _ (m : Contents) (rising : IsRising m) (key : ℕ) where
  rising_below : IsRising (below key m)
  rising_below = AllPairs-filter (λ (a : ℕ × ℕ) (b : ℕ × ℕ). a.0 < b.0) (λ (pair : ℕ × ℕ). nat_lt pair.0 key) m rising

  rising_above : IsRising (above key m)
  rising_above = AllPairs-filter (λ (a : ℕ × ℕ) (b : ℕ × ℕ). a.0 < b.0) (λ (pair : ℕ × ℕ). nat_lt key pair.0) m rising

  -- with a pair of the key put between
  pub IsRising-insert : (value : ℕ) → IsRising (below key m ++ (key, value) ∷ above key m)
  IsRising-insert value = IsRising-append (below key m) ((key, value) ∷ above key m) rising_below
      (AllPairs-cons (λ (a : ℕ × ℕ) (b : ℕ × ℕ). a.0 < b.0) (key, value) (above key m) (AreAbove-above m key) rising_above)
      (λ i d in_front.
      let low = AreBelow-below m key i d in_front in
      let key_of = (slice_index_or (below key m) i d).0 in
      All-cons (λ (b : ℕ × ℕ). key_of < b.0) (key, value) (above key m) low (λ j e in_back.
      let high = AreAbove-above m key j e in_back in
      omega arith))

  -- with the pair of the key taken away
  pub IsRising-remove : IsRising (below key m ++ above key m)
  IsRising-remove = IsRising-append (below key m) (above key m) rising_below rising_above (λ i d in_front.
      let low = AreBelow-below m key i d in_front in
      λ j e in_back.
      let high = AreAbove-above m key j e in_back in
      omega arith)
