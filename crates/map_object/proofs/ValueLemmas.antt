-- The values of pairs at keys, which determine pairs that are sorted by key.
use Rattle.std.proofs.Common.{◌≡◌, ℕ, ◌<◌, [], ◌∷◌, get_or, Some, refl, sym, ◌∙◌, subst, ⊎_elim, arith}
use Rattle.std.proofs.lemmas.Bool.{eq-eqb, ne_eqb, cases_order}
use Rattle.std.proofs.lemmas.Option.{none-some, same_Some}
use Rattle.std.proofs.lemmas.List.Elements.{All-cons}
use Rattle.map_object.specs.MapObject.{Contents, IsRising, value_at}
use Rattle.map_object.proofs.MapLemmas.{AreAbove, AreAbove-first, IsRising-rest, value_at_above}

-- the first pair has the value at its own key, and those after it have those at others
pub first_value : (k v : ℕ) (m : Contents) → value_at ((k, v) ∷ m) k ≡ Some v
first_value k v m = rw (eq-eqb k k refl) refl

pub later_value : (k v : ℕ) (m : Contents) (key : ℕ) → (k ≡ key → ⊥) → value_at ((k, v) ∷ m) key ≡ value_at m key
later_value k v m key other = rw (ne_eqb k key other) refl

-- the first key of pairs is above no key that they have a value at
not_below : (k v l w : ℕ) (m n : Contents) → IsRising ((l, w) ∷ n)
    → ((key : ℕ) → value_at ((k, v) ∷ m) key ≡ value_at ((l, w) ∷ n) key) → k < l → ⊥
not_below k v l w m n rising same less =
    let above_all : AreAbove k ((l, w) ∷ n) =
    All-cons (λ (p : ℕ × ℕ). k < p.0) (l, w) n less
    (λ i d within. let more : l < (get_or n i d).0 =
    AreAbove-first (l, w) n rising i d within in omega arith) in
    none-some v (sym (value_at_above k ((l, w) ∷ n) above_all) ∙ (sym (same k) ∙ first_value k v m))

-- pairs by rising key that have the same values are the same
pub same_pairs : (m n : Contents) → IsRising m → IsRising n → ((key : ℕ) → value_at m key ≡ value_at n key) → m ≡ n
same_pairs [] [] m_rises n_rises same = refl
same_pairs [] ((l, w) ∷ n) m_rises n_rises same = absurd (none-some w (same l ∙ first_value l w n))
same_pairs ((k, v) ∷ m) [] m_rises n_rises same = absurd (none-some v (sym (same k) ∙ first_value k v m))
same_pairs ((k, v) ∷ m) ((l, w) ∷ n) m_rises n_rises same =
    let keys : k ≡ l = ⊎_elim (λ equal. equal) (λ differ. ⊎_elim
    (λ less. absurd (not_below k v l w m n n_rises same less))
    (λ more. absurd (not_below l w k v n m m_rises (λ key. sym (same key)) more)) differ) (cases_order k l) in
    let values : v ≡ w = same_Some v w (sym (first_value k v m) ∙ (same k ∙ rw keys (first_value l w n))) in
    let rests : m ≡ n =
    same_pairs m n (IsRising-rest (k, v) m m_rises) (IsRising-rest (l, w) n n_rises) (λ key. ⊎_elim
    (λ here. subst (λ at. value_at m at ≡ value_at n at) here
    (value_at_above k m (AreAbove-first (k, v) m m_rises) ∙ sym (rw keys (value_at_above l n (AreAbove-first (l, w) n n_rises)))))
    (λ differ. let other : (k ≡ key → ⊥) = λ e. ⊎_elim (λ less. omega (arith, less, e)) (λ more. omega (arith, more, e)) differ in
    sym (later_value k v m key other) ∙ (same key ∙ later_value l w n key (λ e. other (keys ∙ e)))) (cases_order k key)) in
    cc
