-- One more place in a set that is kept as its least missing number and bits.
use Rattle.memo.proofs.Common.{◌≡◌, ℕ, ◌+◌, ◌-◌, ◌^◌, ◌<◌, ◌≤◌, List, sym, ap, ◌∙◌, inl, inr, ⊎_elim, arith, ◌≢◌, ◌⊎◌, ◌↔◌, All, Contains}
use Rattle.memo.proofs.Common.{cases_order, cases_lt, cases_eq, All-contains, All-from_contains, with_place, bit_of, places_of, IsTrimmed, AreWords}
use Rattle.memo.proofs.Common.{ArePlaces}
use Rattle.memo.proofs.TakingLemmas.{Contains-with_place, with_place-rises}
use Rattle.memo.proofs.WordLemmas.{IsAmong, Contains-places_of, places_of-rises, places_of-is}

-- a form of a set that has one more number is the form of the list with it
module _ (least : ℕ) (words : List ℕ) (place more : ℕ) (longer : List ℕ)
    (same : (n : ℕ) → IsAmong more longer n ↔ (IsAmong least words n ⊎ (n ≡ place))) where
  pub places_of-with : places_of more longer ≡ with_place (places_of least words) place
  places_of-with = sym (places_of-is more longer (with_place (places_of least words) place)
      (with_place-rises (places_of least words) place (places_of-rises least words))
      (λ n. (
        λ h. (same n).1
            (⊎_elim (λ old. inl ((Contains-places_of least words n).0 old)) (λ is. inr is)
            ((Contains-with_place (places_of least words) place n).0 h)),
        λ h. (Contains-with_place (places_of least words) place n).1
            (⊎_elim (λ old. inl ((Contains-places_of least words n).1 old)) (λ is. inr is) ((same n).0 h)),
      )))

  -- the numbers of the longer form have 64 bits
  pub places_small : All (λ n. n < 2 ^ 64 - 1) (places_of least words) → place < 2 ^ 64 - 1 → All (λ n. n < 2 ^ 64 - 1) (places_of more longer)
  places_small small here = All-from_contains (λ n. n < 2 ^ 64 - 1) (places_of more longer)
      (λ n h. ⊎_elim (λ old. All-contains (λ m. m < 2 ^ 64 - 1) (places_of least words) n small ((Contains-places_of least words n).1 old))
      (λ is. rw is here) ((same n).0 ((Contains-places_of more longer n).0 h)))

  pub ArePlaces-with : ArePlaces least words → place < 2 ^ 64 - 1 → AreWords longer → IsTrimmed longer → ArePlaces more longer
  ArePlaces-with is here each trimmed = record { each = each; trimmed = trimmed; small = places_small is.small here }

-- a number that is neither below the least missing one nor that one itself is above it
pub place_above : (least : ℕ) (words : List ℕ) (place : ℕ) → (Contains (places_of least words) place → ⊥) → place ≤ least → place ≡ least
place_above least words place new le =
    ⊎_elim (λ lt. absurd (new ((Contains-places_of least words place).1 (inl lt)))) (λ ge. omega (arith, le, ge)) (cases_lt place least)

-- one more bit is one more number
module _ (least : ℕ) (words : List ℕ) (place : ℕ) (longer : List ℕ) (above : least < place) (set : bit_of longer (place - (least + 1)) ≡ 1)
    (others : (n : ℕ) → n ≢ place - (least + 1) → bit_of longer n ≡ bit_of words n) where
  bit_too : (n : ℕ) → least < n → n ≢ place → bit_of longer (n - (least + 1)) ≡ bit_of words (n - (least + 1))
  bit_too n high other = others (n - (least + 1)) (λ is. other (omega (arith, is, high, above)))

  pub IsAmong-set : (n : ℕ) → IsAmong least longer n ↔ (IsAmong least words n ⊎ (n ≡ place))
  IsAmong-set n = (from, λ h. ⊎_elim old here h)
    where
      from : IsAmong least longer n → IsAmong least words n ⊎ (n ≡ place)
      from (inl low) = inl (inl low)
      from (inr high) = ⊎_elim (λ is. inr is) (λ other. inl (inr (high.0, sym (bit_too n high.0 other) ∙ high.1))) (cases_eq n place)

      here : n ≡ place → IsAmong least longer n
      here is = inr (omega (arith, is, above), ap (λ (m : ℕ). bit_of longer (m - (least + 1))) is ∙ set)

      old : IsAmong least words n → IsAmong least longer n
      old (inl low) = inl low
      old (inr high) = ⊎_elim (λ is. here is) (λ other. inr (high.0, bit_too n high.0 other ∙ high.1)) (cases_eq n place)

-- the least missing number is put in: the run of ones above it ends at the next one that is missing
module _ (least : ℕ) (words : List ℕ) (run : ℕ) (fewer : List ℕ) (ones : (n : ℕ) → n < run → bit_of words n ≡ 1)
    (zero : bit_of words run ≡ 0)
    (bits : (n : ℕ) → bit_of fewer n ≡ bit_of words (n + (run + 1))) where
  abbrev next : ℕ
  next = least + run + 1

  higher : (n : ℕ) → next < n → bit_of fewer (n - (next + 1)) ≡ bit_of words (n - (least + 1))
  higher n h = bits (n - (next + 1)) ∙ ap (bit_of words) (omega (arith, h))

  pub IsAmong-run : (n : ℕ) → IsAmong next fewer n ↔ (IsAmong least words n ⊎ (n ≡ least))
  IsAmong-run n = (from, λ h. ⊎_elim old here h)
    where
      from : IsAmong next fewer n → IsAmong least words n ⊎ (n ≡ least)
      from (inl low) = ⊎_elim (λ is. inr is)
          (λ apart. ⊎_elim (λ lt. inl (inl lt)) (λ gt. inl (inr (gt, ones (n - (least + 1)) (omega (arith, low, gt))))) apart)
          (cases_order n least)
      from (inr high) = inl (inr (omega (arith, high.0), sym (higher n high.0) ∙ high.1))

      here : n ≡ least → IsAmong next fewer n
      here is = inl (omega (arith, is))

      old : IsAmong least words n → IsAmong next fewer n
      old (inl low) = inl (omega (arith, low))
      old (inr high) = ⊎_elim (λ is. absurd (at_end is high.1))
          (λ apart. ⊎_elim (λ lt. inl lt) (λ gt. inr (gt, higher n gt ∙ high.1)) apart) (cases_order n next)
        where
          at_end : n ≡ next → bit_of words (n - (least + 1)) ≡ 1 → ⊥
          at_end is one =
              let run_is : n - (least + 1) ≡ run = omega (arith, is) in
              omega (arith, sym one ∙ ap (bit_of words) run_is ∙ zero)
