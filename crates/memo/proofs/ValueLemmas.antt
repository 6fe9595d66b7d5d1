-- Pairs by the values at their keys.
use Rattle.memo.proofs.Common.{◌≡◌, ℕ, ◌<◌, Bool, true, false, cond, [], ◌∷◌, ◌++◌, Option, Some, None, refl, sym, ap, ◌∙◌, subst, ⊎_elim, arith}
use Rattle.memo.proofs.Common.{◌==◌, filter, cases_eq, cases_order, nat_tests, Contents, IsRising, value_at, below, above, IsRising-insert}
use Rattle.memo.proofs.Common.{IsRising-remove, first_value, later_value, same_pairs, with_value}
use Rattle.std.proofs.Common.{nat_lt}

-- ---- values of parts of pairs

-- the first of two values that is one
abbrev pub or_else : Option ℕ → Option ℕ → Option ℕ
or_else None other = other
or_else (Some value) other = Some value

pub value_at-join : (front back : Contents) (key : ℕ) → value_at (front ++ back) key ≡ or_else (value_at front key) (value_at back key)
value_at-join [] back key = refl
value_at-join ((k, v) ∷ front) back key = by_key (k == key) (value_at-join front back key)
  where
    by_key : (b : Bool) → value_at (front ++ back) key ≡ or_else (value_at front key) (value_at back key)
        → cond b (Some v) (value_at (front ++ back) key) ≡ or_else (cond b (Some v) (value_at front key)) (value_at back key)
    by_key true h = refl
    by_key false h = h

either_way : (b : Bool) (value : Option ℕ) → value ≡ cond b value value
either_way true value = refl
either_way false value = refl

-- a pair that may be kept, before others
pub kept_here : (b : Bool) (k v : ℕ) (rest : Contents) (value : Option ℕ) → value_at rest k ≡ cond b value None
    → value_at (cond b ((k, v) ∷ rest) rest) k ≡ cond b (Some v) None
kept_here true k v rest value h = first_value k v rest
kept_here false k v rest value h = h

pub kept_there : (b : Bool) (k v : ℕ) (rest : Contents) (key : ℕ) → (k ≡ key → ⊥) → value_at (cond b ((k, v) ∷ rest) rest) key ≡ value_at rest key
kept_there true k v rest key other = later_value k v rest key other
kept_there false k v rest key other = refl

-- pairs of which some are kept by key
pub value_at-kept : (p : ℕ → Bool) (m : Contents) (key : ℕ) → value_at (filter (λ pair. p pair.0) m) key ≡ cond (p key) (value_at m key) None
value_at-kept p [] key = either_way (p key) None
value_at-kept p ((k, v) ∷ m) key =
    ⊎_elim (λ same. here (value_at-kept p m k) same) (λ other. there (value_at-kept p m key) other) (cases_eq k key)
  where
    here : value_at (filter (λ pair. p pair.0) m) k ≡ cond (p k) (value_at m k) None → k ≡ key
        → value_at (filter (λ pair. p pair.0) ((k, v) ∷ m)) key ≡ cond (p key) (value_at ((k, v) ∷ m) key) None
    here rest same = subst (λ at. value_at (filter (λ pair. p pair.0) ((k, v) ∷ m)) at ≡ cond (p at) (value_at ((k, v) ∷ m) at) None) same
        (kept_here (p k) k v (filter (λ pair. p pair.0) m) (value_at m k) rest ∙ ap (λ o. cond (p k) o None) (sym (first_value k v m)))

    there : value_at (filter (λ pair. p pair.0) m) key ≡ cond (p key) (value_at m key) None → (k ≡ key → ⊥)
        → value_at (filter (λ pair. p pair.0) ((k, v) ∷ m)) key ≡ cond (p key) (value_at ((k, v) ∷ m) key) None
    there rest other =
        kept_there (p k) k v (filter (λ pair. p pair.0) m) key other ∙ rest ∙ ap (λ o. cond (p key) o None) (sym (later_value k v m key other))

-- ---- pairs with a value or none at a key

module _ (key : ℕ) (m : Contents) where
  below_own : value_at (below key m) key ≡ None
  below_own = value_at-kept (λ k. nat_lt k key) m key ∙ grind (arith, nat_tests)

  above_own : value_at (above key m) key ≡ None
  above_own = value_at-kept (λ k. nat_lt key k) m key ∙ grind (arith, nat_tests)

  pub value_at-own : (value : Option ℕ) → value_at (with_value key value m) key ≡ value
  value_at-own None = value_at-join (below key m) (above key m) key ∙ rw (below_own, above_own) refl
  value_at-own (Some value) =
      value_at-join (below key m) ((key, value) ∷ above key m) key ∙ rw below_own (first_value key value (above key m))

  -- at another key nothing has changed
  module _ (k : ℕ) (other : key ≡ k → ⊥) where
    below_lower : k < key → value_at (below key m) k ≡ value_at m k
    below_lower lt = value_at-kept (λ j. nat_lt j key) m k ∙ grind (arith, nat_tests)

    below_higher : key < k → value_at (below key m) k ≡ None
    below_higher lt = value_at-kept (λ j. nat_lt j key) m k ∙ grind (arith, nat_tests)

    above_lower : k < key → value_at (above key m) k ≡ None
    above_lower lt = value_at-kept (λ j. nat_lt key j) m k ∙ grind (arith, nat_tests)

    above_higher : key < k → value_at (above key m) k ≡ value_at m k
    above_higher lt = value_at-kept (λ j. nat_lt key j) m k ∙ grind (arith, nat_tests)

    or_none : (value : Option ℕ) → or_else value None ≡ value
    or_none None = refl
    or_none (Some value) = refl

    both : or_else (value_at (below key m) k) (value_at (above key m) k) ≡ value_at m k
    both = ⊎_elim (λ same. absurd (other (sym same))) (λ apart. ⊎_elim
        (λ lt. rw (below_lower lt, above_lower lt) (or_none (value_at m k)))
        (λ gt. rw (below_higher gt, above_higher gt) refl) apart) (cases_order k key)

    pub value_at-other : (value : Option ℕ) → value_at (with_value key value m) k ≡ value_at m k
    value_at-other None = value_at-join (below key m) (above key m) k ∙ both
    value_at-other (Some value) =
        value_at-join (below key m) ((key, value) ∷ above key m) k
        ∙ ap (or_else (value_at (below key m) k)) (later_value key value (above key m) k other) ∙ both

  pub with_value-rises : IsRising m → (value : Option ℕ) → IsRising (with_value key value m)
  with_value-rises rising None = IsRising-remove m rising key
  with_value-rises rising (Some value) = IsRising-insert m rising key value

-- pairs that agree but at one key are the others with its value there
pub with_value-is : (key : ℕ) (m n : Contents) → IsRising m → IsRising n → ((k : ℕ) → (key ≡ k → ⊥) → value_at n k ≡ value_at m k)
    → with_value key (value_at n key) m ≡ n
with_value-is key m n m_rises n_rises same =
    same_pairs (with_value key (value_at n key) m) n (with_value-rises key m m_rises (value_at n key)) n_rises (λ k.
    ⊎_elim (λ here. subst (λ at. value_at (with_value key (value_at n key) m) at ≡ value_at n at) here (value_at-own key m (value_at n key)))
    (λ other. value_at-other key m k other (value_at n key) ∙ sym (same k other)) (cases_eq key k))
