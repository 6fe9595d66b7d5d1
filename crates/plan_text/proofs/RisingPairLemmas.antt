-- Keys that rise from each pair to the next rise.
use Rattle.plan_text.proofs.Common.{◌≡◌, ℕ, zero, suc, ◌+◌, ◌<◌, length, get_or, inl, inr, subst, sym, arith, ◌⊎◌, Contents, IsRising}

-- each key is below the next one
abbrev pub RisesNext : Contents → ℕ → Type 0
RisesNext pairs n = (k : ℕ) (d : ℕ × ℕ) → k + 1 < n → (get_or pairs k d).0 < (get_or pairs (k + 1) d).0

at_or_below : (i j : ℕ) → i < j + 1 → (i ≡ j) ⊎ (i < j)
at_or_below i j h = grind (arith)

rises_up : (pairs : Contents) → RisesNext pairs (length pairs) → (i j : ℕ) (d : ℕ × ℕ) → i < j → j < length pairs
    → (get_or pairs i d).0 < (get_or pairs j d).0
rises_up pairs next i zero d before within = absurd (omega arith)
rises_up pairs next i (suc j) d before within = elim (at_or_below i j (omega arith)) [
  | inl same ↦ subst (λ (n : ℕ). (get_or pairs n d).0 < (get_or pairs (suc j) d).0) (sym same) (next_of j within)
  | inr below ↦ omega (arith, rises_up pairs next i j d below (omega arith), next_of j within)
]
  where
    next_of : (k : ℕ) → suc k < length pairs → (get_or pairs k d).0 < (get_or pairs (suc k) d).0
    next_of k inside =
        let same : k + 1 ≡ suc k = omega arith in
        subst (λ (n : ℕ). (get_or pairs k d).0 < (get_or pairs n d).0) same (next k d (omega arith))

pub IsRising-from_next : (pairs : Contents) → RisesNext pairs (length pairs) → IsRising pairs
IsRising-from_next pairs next = λ i j d before within. rises_up pairs next i j d before within
