-- A change of one key is undone by putting the key back.
use Rattle.search.proofs.Common.{◌≡◌, ℕ, ◌<◌, Bool, true, false, Option, Some, None, [], ◌∷◌, ◌++◌, refl, sym, ap, ◌∙◌, inl, inr, ⊎_elim, arith, ◌⊎◌}
use Rattle.search.proofs.Common.{All, if◌then◌else◌, cases_order, Call, Contents, IsRising, value_at, below, above, after, put, is_just}
use Rattle.search.proofs.Common.{AllPairs-head, AllPairs-tail, restoring}
use Rattle.std.proofs.lemmas.Bool.Decides.{nat_tests}
use Rattle.events.specs.declared.event.Call.TheVariants.{Insert, Remove, Replace}
use Rattle.map_object.proofs.MapLemmas.{AreAbove, AreBelow-below, AreAbove-above, below_none, above_all, value_at_above, below_found, above_found}
use Rattle.map_object.proofs.MapLemmas.{below_gap, above_gap}

-- pairs with the value of a key, or none, between those below it and those above
abbrev pub with_value : ℕ → Option ℕ → Contents → Contents → Contents
with_value key None front back = front ++ back
with_value key (Some value) front back = front ++ (key, value) ∷ back

-- what putting a key back leaves
after-restoring : (m : Contents) (key : ℕ) (value : Option ℕ)
    → after m (restoring key value) ≡ with_value key value (below key m) (above key m)
after-restoring m key None = refl
after-restoring m key (Some value) = refl

with_value-cons : (pair : ℕ × ℕ) (key : ℕ) (value : Option ℕ) (front back : Contents)
    → with_value key value (pair ∷ front) back ≡ pair ∷ with_value key value front back
with_value-cons pair key None front back = refl
with_value-cons pair key (Some value) front back = refl

-- pairs are those below a key, its own, and those above it
pub joined : (m : Contents) (key : ℕ) → IsRising m → with_value key (value_at m key) (below key m) (above key m) ≡ m
joined [] key rising = refl
joined ((k, value) ∷ m) key rising = by_cases (joined m key (AllPairs-tail (λ (a : ℕ × ℕ) (b : ℕ × ℕ). a.0 < b.0) (k, value) m rising))
    (cases_order k key)
  where
    higher : All (λ (b : ℕ × ℕ). k < b.0) m
    higher = AllPairs-head (λ (a : ℕ × ℕ) (b : ℕ × ℕ). a.0 < b.0) (k, value) m rising

    lower_value : k < key → value_at ((k, value) ∷ m) key ≡ value_at m key
    lower_value lt = grind (arith, nat_tests)

    lower_below : k < key → below key ((k, value) ∷ m) ≡ (k, value) ∷ below key m
    lower_below lt = grind (arith, nat_tests)

    lower_above : k < key → above key ((k, value) ∷ m) ≡ above key m
    lower_above lt = grind (arith, nat_tests)

    same_value : k ≡ key → value_at ((k, value) ∷ m) key ≡ Some value
    same_value is = grind (arith, nat_tests)

    all_above : (j : ℕ) → j < k ⊎ (j ≡ k) → AreAbove j m
    all_above j le i d within = let up = higher i d within in ⊎_elim (λ lt. omega arith) (λ is. omega arith) le

    same_below : k ≡ key → below key ((k, value) ∷ m) ≡ []
    same_below is = grind (arith, nat_tests, below_none key m (all_above key (inr (sym is))))

    same_above : k ≡ key → above key ((k, value) ∷ m) ≡ m
    same_above is = grind (arith, nat_tests, above_all key m (all_above key (inr (sym is))))

    higher_value : key < k → value_at ((k, value) ∷ m) key ≡ None
    higher_value lt = grind (arith, nat_tests, value_at_above key m (all_above key (inl lt)))

    higher_below : key < k → below key ((k, value) ∷ m) ≡ []
    higher_below lt = grind (arith, nat_tests, below_none key m (all_above key (inl lt)))

    higher_above : key < k → above key ((k, value) ∷ m) ≡ (k, value) ∷ m
    higher_above lt = grind (arith, nat_tests, above_all key m (all_above key (inl lt)))

    parts : (o : Option ℕ) (front back : Contents) → value_at ((k, value) ∷ m) key ≡ o → below key ((k, value) ∷ m) ≡ front
        → above key ((k, value) ∷ m) ≡ back
        → with_value key (value_at ((k, value) ∷ m) key) (below key ((k, value) ∷ m))
        (above key ((k, value) ∷ m)) ≡ with_value key o front back
    parts o front back e f g =
        ap (λ x. with_value key x (below key ((k, value) ∷ m)) (above key ((k, value) ∷ m))) e
        ∙ ap (λ x. with_value key o x (above key ((k, value) ∷ m))) f
        ∙ ap (λ x. with_value key o front x) g

    by_cases : with_value key (value_at m key) (below key m) (above key m) ≡ m → (k ≡ key) ⊎ ((k < key) ⊎ (key < k))
        → with_value key (value_at ((k, value) ∷ m) key) (below key ((k, value) ∷ m)) (above key ((k, value) ∷ m)) ≡ (k, value) ∷ m
    by_cases rest (inl is) = parts (Some value) [] m (same_value is) (same_below is) (same_above is) ∙ ap (λ j. (j, value) ∷ m) (sym is)
    by_cases rest (inr (inl lt)) =
        parts (value_at m key) ((k, value) ∷ below key m) (above key m) (lower_value lt) (lower_below lt) (lower_above lt)
        ∙ with_value-cons (k, value) key (value_at m key) (below key m) (above key m) ∙ ap (λ pairs. (k, value) ∷ pairs) rest
    by_cases rest (inr (inr lt)) = parts None [] ((k, value) ∷ m) (higher_value lt) (higher_below lt) (higher_above lt)

module _ (m : Contents) (key : ℕ) (rising : IsRising m) where
  -- an insert is undone
  pub insert_undone : (value : ℕ) → after (after m (Insert key value)) (restoring key (value_at m key)) ≡ m
  insert_undone value =
      let low = AreBelow-below m key in
      let high = AreAbove-above m key in
      after-restoring (after m (Insert key value)) key (value_at m key)
      ∙ ap (λ x. with_value key (value_at m key) x (above key (after m (Insert key value))))
      (below_found key value (below key m) (above key m) low high)
      ∙ ap (λ x. with_value key (value_at m key) (below key m) x) (above_found key value (below key m) (above key m) low high)
      ∙ joined m key rising

  -- a remove is undone
  pub remove_undone : after (after m (Remove key)) (restoring key (value_at m key)) ≡ m
  remove_undone =
      let low = AreBelow-below m key in
      let high = AreAbove-above m key in
      after-restoring (after m (Remove key)) key (value_at m key)
      ∙ ap (λ x. with_value key (value_at m key) x (above key (after m (Remove key)))) (below_gap key (below key m) (above key m) low high)
      ∙ ap (λ x. with_value key (value_at m key) (below key m) x) (above_gap key (below key m) (above key m) low high)
      ∙ joined m key rising

  -- a replace is undone
  pub replace_undone : (expected value : ℕ) → after (after m (Replace key expected value)) (restoring key (value_at m key)) ≡ m
  replace_undone expected value = by_test (is_just (value_at m key) expected) refl
    where
      by_test : (test : Bool) → is_just (value_at m key) expected ≡ test
          → after (after m (Replace key expected value)) (restoring key (value_at m key)) ≡ m
      by_test true is = ap (λ b. after (if b then put key value m else m) (restoring key (value_at m key))) is ∙ insert_undone value
      by_test false is =
          ap (λ b. after (if b then put key value m else m) (restoring key (value_at m key))) is ∙ after-restoring m key (value_at m key)
          ∙ joined m key rising

-- a change of a key is undone
pub change_undone : (m : Contents) (call : Call) (key : ℕ) → IsRising m
    → ((value : ℕ) × (call ≡ Insert key value))
    ⊎ ((call ≡ Remove key) ⊎ ((expected : ℕ) × (value : ℕ) × (call ≡ Replace key expected value)))
    → after (after m call) (restoring key (value_at m key)) ≡ m
change_undone m call key rising (inl (value, is)) = ap (λ d. after (after m d) (restoring key (value_at m key))) is
    ∙ insert_undone m key rising value
change_undone m call key rising (inr (inl is)) = ap (λ d. after (after m d) (restoring key (value_at m key))) is
    ∙ remove_undone m key rising
change_undone m call key rising (inr (inr (expected, value, is))) =
    ap (λ d. after (after m d) (restoring key (value_at m key))) is ∙ replace_undone m key rising expected value
