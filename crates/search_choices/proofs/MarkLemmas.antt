-- Which calls are taken, and a place below which all are.
use Rattle.search_choices.proofs.Common.{◌≡◌, ℕ, ◌<◌, ◌≤◌, Bool, true, false, List, [], ◌∷◌, ◌++◌, length, get_or, set, replicate, refl, sym, ap, ◌∙◌}
use Rattle.search_choices.proofs.Common.{⊎_elim, arith, ◌≢◌, ◌⊎◌, ◌||◌, Contains, cases_order, eq-eqb, ne_eqb, false_from_ne_true, length-set}
use Rattle.search_choices.proofs.Common.{get_or-set_same, get_or-set_other, get_or-replicate, length-replicate, Contains-append_left}
use Rattle.search_choices.proofs.Common.{Contains-push_cases, has_number, has_number-Contains, has_number-push, AreMarked}

-- no call is taken
pub marked-none : (size : ℕ) → AreMarked size [] (replicate size false) 0
marked-none size = record {
  all = length-replicate size false;
  marks = λ n lt. get_or-replicate size n false false lt;
  within = omega arith;
  below = λ n lt. absurd (omega arith);
}

or_false : (b : Bool) → b || false ≡ b
or_false true = refl
or_false false = refl

or_true : (b : Bool) → b || true ≡ true
or_true true = refl
or_true false = refl

-- a number other than the last one is in the list exactly if it is before the last one
not_last : (path : List ℕ) (n k : ℕ) → k ≢ n → has_number (path ++ n ∷ []) k ≡ has_number path k
not_last path n k other = has_number-push path n k ∙ ap (λ b. has_number path k || b) (ne_eqb n k (λ is. other (sym is)))
    ∙ or_false (has_number path k)

-- one call more is taken
pub marked-push : (size : ℕ) (path : List ℕ) (taken : List Bool) (low n after : ℕ) → AreMarked size path taken low → n < size
    → after ≤ length (set taken n true) → ((k : ℕ) → k < after → (k < low) ⊎ (get_or (set taken n true) k false ≡ true))
    → AreMarked size (path ++ n ∷ []) (set taken n true) after
marked-push size path taken low n after m lt le below = record {
  all = length-set taken n true ∙ m.all;
  marks = marks;
  within = omega (arith, le, length-set taken n true, m.all);
  below = λ k k_lt. ⊎_elim
      (λ old. Contains-append_left path (n ∷ []) k (m.below k old))
      (λ marked. has_number-Contains (path ++ n ∷ []) k
      (sym (marks k (omega (arith, le, length-set taken n true, m.all, k_lt))) ∙ marked))
      (below k k_lt);
}
  where
    marks : (k : ℕ) → k < size → get_or (set taken n true) k false ≡ has_number (path ++ n ∷ []) k
    marks k k_lt = ⊎_elim
        (λ is. ap (λ j. get_or (set taken n true) j false) is ∙ get_or-set_same taken n true false (omega (arith, m.all, lt))
        ∙ sym (has_number-push path n k ∙ ap (λ b. has_number path k || b) (eq-eqb n k (sym is)) ∙ or_true (has_number path k)))
        (λ apart. let other : k ≢ n = ⊎_elim (λ lower same. absurd (omega arith)) (λ higher same. absurd (omega arith)) apart in
        get_or-set_other taken n k true false other ∙ m.marks k k_lt ∙ sym (not_last path n k other))
        (cases_order k n)

-- one call is put back
pub marked-pop : (size : ℕ) (path : List ℕ) (taken : List Bool) (low n after : ℕ) → AreMarked size (path ++ n ∷ []) taken low → n < size
    → (Contains path n → ⊥) → after ≤ low → after ≤ n → AreMarked size path (set taken n false) after
marked-pop size path taken low n after m lt new le not_above = record {
  all = length-set taken n false ∙ m.all;
  marks = λ k k_lt. ⊎_elim
      (λ is. ap (λ j. get_or (set taken n false) j false) is ∙ get_or-set_same taken n false false (omega (arith, m.all, lt))
      ∙ sym (ap (has_number path) is ∙ false_from_ne_true (has_number path n) (λ h. new (has_number-Contains path n h))))
      (λ apart. let other : k ≢ n = ⊎_elim (λ lower same. absurd (omega arith)) (λ higher same. absurd (omega arith)) apart in
      get_or-set_other taken n k false false other ∙ m.marks k k_lt ∙ not_last path n k other)
      (cases_order k n);
  within = omega (arith, m.within, le);
  below = λ k k_lt. ⊎_elim (λ old. old) (λ is. absurd (omega arith)) (Contains-push_cases path n k (m.below k (omega arith)));
}
