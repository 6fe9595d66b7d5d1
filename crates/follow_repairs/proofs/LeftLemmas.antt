-- The calls that are not in a front, so far.
use Rattle.follow_repairs.proofs.Common.{◌≡◌, ℕ, ◌+◌, ◌<◌, List, [], ◌∷◌, ◌++◌, length, sym, subst, ⊎_elim, arith, ◌↔◌, AllPairs, Contains, cases_lt}
use Rattle.follow_repairs.proofs.Common.{Contains-push, Contains-push_cases, Contains-append_left, Operation, AllPairs-nil, All-from_contains}
use Rattle.follow_repairs.proofs.Common.{Contains-nil, AreLeft}
use Rattle.std.proofs.lemmas.List.Quantifiers.{all_pairs_push}

-- the places below one that are not in a front, by rising place
pub record AreLeftBelow (path left : List ℕ) (place : ℕ) : Type 0 where
  pub rising : AllPairs (λ m n. m < n) left
  pub each : (n : ℕ) → Contains left n ↔ ((n < place) × (Contains path n → ⊥))

pub left-none : (path left : List ℕ) (low : ℕ) → left ≡ [] → ((n : ℕ) → n < low → Contains path n) → AreLeftBelow path left low
left-none path left low none below = subst (λ xs. AreLeftBelow path xs low) (sym none) (record {
  rising = AllPairs-nil (λ m n. m < n);
  each = λ n. (λ h. absurd (Contains-nil n h), λ h. absurd (h.1 (below n h.0)));
})

pub left-more : (path left more : List ℕ) (place : ℕ) → more ≡ left ++ place ∷ [] → (Contains path place → ⊥) → AreLeftBelow path left place
    → AreLeftBelow path more (place + 1)
left-more path left more place is out h = subst (λ xs. AreLeftBelow path xs (place + 1)) (sym is) (record {
  rising = all_pairs_push (λ m n. m < n) left place h.rising (All-from_contains (λ m. m < place) left (λ m within. ((h.each m).0 within).0));
  each = λ n. (
    λ within. ⊎_elim
        (λ old. let found = (h.each n).0 old in (omega (arith, found.0), found.1))
        (λ same. (omega arith, λ has. out (subst (Contains path) (sym same) has)))
        (Contains-push_cases left place n within),
    λ found. ⊎_elim
        (λ lt. Contains-append_left left (place ∷ []) n ((h.each n).1 (lt, found.1)))
        (λ ge. let same : place ≡ n = omega (arith, found.0, ge) in subst (Contains (left ++ place ∷ [])) same (Contains-push left place))
        (cases_lt n place),
  );
})

pub left-skip : (path left more : List ℕ) (place : ℕ) → more ≡ left → Contains path place → AreLeftBelow path left place
    → AreLeftBelow path more (place + 1)
left-skip path left more place is has h = subst (λ xs. AreLeftBelow path xs (place + 1)) (sym is) (record {
  rising = h.rising;
  each = λ n. (
    λ within. let found = (h.each n).0 within in (omega (arith, found.0), found.1),
    λ found. ⊎_elim
        (λ lt. (h.each n).1 (lt, found.1))
        (λ ge. let same : place ≡ n = omega (arith, found.0, ge) in absurd (found.1 (subst (Contains path) same has)))
        (cases_lt n place),
  );
})

pub left-all : (calls : List Operation) (path left : List ℕ) (place : ℕ) → place ≡ length calls → AreLeftBelow path left place
    → AreLeft calls path left
left-all calls path left place is h = record {
  rising = h.rising;
  each = λ n. subst (λ size. Contains left n ↔ ((n < size) × (Contains path n → ⊥))) is (h.each n);
}
