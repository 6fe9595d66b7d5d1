-- A stable sort by stamps gives the events by rising stamp.
use Rattle.events.proofs.Common.{◌≡◌, ℕ, suc, ◌<◌, ◌≤◌, ◌==◌, Bool, true, false, cond, not, ◌&&◌, List, [], ◌∷◌, length, get_or, filter, refl, sym}
use Rattle.events.proofs.Common.{ap, subst, ◌∙◌, ⊎_elim, arith, nat_le, if◌then◌else◌, IsNonDecreasingBy, IsSortedByKey, IsStableByKey, nat_cmp}
use Rattle.events.proofs.Common.{is_lt, leb-true, leb-false, eq-eqb, ne_eqb, eqb-true, cases_order, filter_agree, IsNonDecreasingBy-from_sort}
use Rattle.events.proofs.Common.{Stamped, placed, by_stamp}
use Rattle.events.proofs.NumberLemmas.{tie_is_same}

-- no stamp is lower than the one before it, nor is the first lower than this
abbrev pub rises : ℕ → List Stamped → Type 0
rises low [] = Unit {0}
rises low (e ∷ es) = (low ≤ e.0) × rises e.0 es

-- whether an event has this stamp
abbrev has_stamp : ℕ → Stamped → Bool
has_stamp k e = e.0 == k

-- Sorted and stable.

rises_from : (low : ℕ) (es : List Stamped) → ((d : Stamped) → 0 < length es → low ≤ (get_or es 0 d).0)
    → IsNonDecreasingBy (λ e. e.0) es → rises low es
rises_from low [] first up = tt
rises_from low (e ∷ es) first up = (
  first e (omega arith),
  rises_from e.0 es (λ d some. up 0 1 d (omega arith) (omega arith)) (λ i j d le lt. up (suc i) (suc j) d (omega arith) (omega arith)),
)

stamps_agree : (x : Stamped) (es : List Stamped)
    → filter (λ e. not (is_lt (nat_cmp x.0 e.0)) && not (is_lt (nat_cmp e.0 x.0))) es ≡ filter (has_stamp x.0) es
stamps_agree x es = filter_agree (λ e. not (is_lt (nat_cmp x.0 e.0)) && not (is_lt (nat_cmp e.0 x.0))) (has_stamp x.0)
    (λ e. tie_is_same x.0 e.0) es

-- Placing an event keeps both.

placed_rises : (low : ℕ) (e : Stamped) (es : List Stamped) → low ≤ e.0 → rises low es → rises low (placed e es)
placed_rises low e [] h up = (h, tt)
placed_rises low e (f ∷ fs) h up = go (nat_le e.0 f.0) refl (placed_rises f.0 e fs)
  where
    go : (b : Bool) → nat_le e.0 f.0 ≡ b → (f.0 ≤ e.0 → rises f.0 fs → rises f.0 (placed e fs))
        → rises low (if b then e ∷ f ∷ fs else f ∷ placed e fs)
    go true is later = (h, (leb-true e.0 f.0 is, up.1))
    go false is later = let less : f.0 < e.0 = leb-false e.0 f.0 is in (up.0, later (omega arith) up.1)

pub by_stamp_rises : (es : List Stamped) → rises 0 (by_stamp es)
by_stamp_rises [] = tt
by_stamp_rises (e ∷ es) = placed_rises 0 e (by_stamp es) (omega arith) (by_stamp_rises es)

-- two events of which at most one is kept may change places
swapped : (a b : Bool) (e f : Stamped) (es : List Stamped) → (a ≡ true → b ≡ true → ⊥)
    → cond b (f ∷ cond a (e ∷ es) es) (cond a (e ∷ es) es) ≡ cond a (e ∷ cond b (f ∷ es) es) (cond b (f ∷ es) es)
swapped true true e f es h = absurd (h refl refl)
swapped true false e f es h = refl
swapped false true e f es h = refl
swapped false false e f es h = refl

filter_placed : (k : ℕ) (e : Stamped) (es : List Stamped) → filter (has_stamp k) (placed e es) ≡ filter (has_stamp k) (e ∷ es)
filter_placed k e [] = refl
filter_placed k e (f ∷ fs) = go (nat_le e.0 f.0) refl (filter_placed k e fs)
  where
    go : (b : Bool) → nat_le e.0 f.0 ≡ b → filter (has_stamp k) (placed e fs) ≡ filter (has_stamp k) (e ∷ fs)
        → filter (has_stamp k) (if b then e ∷ f ∷ fs else f ∷ placed e fs) ≡ filter (has_stamp k) (e ∷ f ∷ fs)
    go true is later = refl
    go false is later =
        ap (λ es. cond (f.0 == k) (f ∷ es) es) later
        ∙ swapped (e.0 == k) (f.0 == k) e f (filter (has_stamp k) fs)
        (λ a b. let less : f.0 < e.0 = leb-false e.0 f.0 is in omega (arith, eqb-true e.0 k a, eqb-true f.0 k b))

filter_by_stamp : (k : ℕ) (es : List Stamped) → filter (has_stamp k) (by_stamp es) ≡ filter (has_stamp k) es
filter_by_stamp k [] = refl
filter_by_stamp k (e ∷ es) = filter_placed k e (by_stamp es) ∙ ap (λ fs. cond (e.0 == k) (e ∷ fs) fs) (filter_by_stamp k es)

-- Events that rise and have the same at each stamp are the same.

none_below : (k low : ℕ) (es : List Stamped) → k < low → rises low es → filter (has_stamp k) es ≡ []
none_below k low [] h up = refl
none_below k low (e ∷ es) h up = let other : (e.0 == k) ≡ false =
    ne_eqb e.0 k (λ same. omega (arith, up.0)) in rw other (none_below k e.0 es (omega (arith, up.0)) up.1)

first_kept : (e : Stamped) (es : List Stamped) → filter (has_stamp e.0) (e ∷ es) ≡ e ∷ filter (has_stamp e.0) es
first_kept e es = rw (eq-eqb e.0 e.0 refl) refl

not_empty : (e : Stamped) (es fs : List Stamped) → fs ≡ [] → fs ≡ e ∷ es → ⊥
not_empty e es fs h k = cc

kept_rest : (b : Bool) (e f : Stamped) (es fs : List Stamped) → cond b (e ∷ es) es ≡ cond b (f ∷ fs) fs → es ≡ fs
kept_rest true e f es fs h = cc
kept_rest false e f es fs h = h

first_same : (e f : Stamped) (es fs : List Stamped) → e ∷ es ≡ f ∷ fs → e ≡ f
first_same e f es fs h = cc

same_cons : (e f : Stamped) (es fs : List Stamped) → e ≡ f → es ≡ fs → e ∷ es ≡ f ∷ fs
same_cons e f es fs h k = cc

unique : (low : ℕ) (es fs : List Stamped) → rises low es → rises low fs
    → ((x : Stamped) → filter (has_stamp x.0) es ≡ filter (has_stamp x.0) fs) → es ≡ fs
unique low [] [] up_e up_f same = refl
unique low [] (f ∷ fs) up_e up_f same = absurd (not_empty f (filter (has_stamp f.0) fs) [] refl (same f ∙ first_kept f fs))
unique low (e ∷ es) [] up_e up_f same = absurd (not_empty e (filter (has_stamp e.0) es) [] refl (sym (same e) ∙ first_kept e es))
unique low (e ∷ es) (f ∷ fs) up_e up_f same = joined (unique e.0 es fs up_e.1)
  where
    less : e.0 < f.0 → ⊥
    less h = not_empty e (filter (has_stamp e.0) es) _ (none_below e.0 f.0 (f ∷ fs) h (omega arith, up_f.1))
        (sym (same e) ∙ first_kept e es)

    more : f.0 < e.0 → ⊥
    more h = not_empty f (filter (has_stamp f.0) fs) _ (none_below f.0 e.0 (e ∷ es) h (omega arith, up_e.1)) (same f ∙ first_kept f fs)

    kept_also : e.0 ≡ f.0 → filter (has_stamp e.0) (f ∷ fs) ≡ f ∷ filter (has_stamp e.0) fs
    kept_also h = rw (eq-eqb f.0 e.0 (sym h)) refl

    heads : e.0 ≡ f.0 → e ≡ f
    heads h = first_same e f (filter (has_stamp e.0) es) (filter (has_stamp e.0) fs) (sym (first_kept e es) ∙ (same e ∙ kept_also h))

    rests : e.0 ≡ f.0 → (x : Stamped) → filter (has_stamp x.0) es ≡ filter (has_stamp x.0) fs
    rests h x = kept_rest (e.0 == x.0) e f (filter (has_stamp x.0) es) (filter (has_stamp x.0) fs)
        (same x ∙ ap (λ n. cond (n == x.0) (f ∷ filter (has_stamp x.0) fs) (filter (has_stamp x.0) fs)) (sym h))

    joined : (rises e.0 fs → ((x : Stamped) → filter (has_stamp x.0) es ≡ filter (has_stamp x.0) fs) → es ≡ fs) → e ∷ es ≡ f ∷ fs
    joined later = ⊎_elim
        (λ h. same_cons e f es fs (heads h) (later (subst (λ n. rises n fs) (sym h) up_f.1) (rests h)))
        (λ other. absurd (⊎_elim less more other)) (cases_order e.0 f.0)

pub sorted_is : (es fs : List Stamped) → IsSortedByKey (λ e. e.0) nat_cmp fs → IsStableByKey (λ e. e.0) nat_cmp es fs → fs ≡ by_stamp es
sorted_is es fs up stable =
    unique 0 fs (by_stamp es) (rises_from 0 fs (λ d some. omega arith) (IsNonDecreasingBy-from_sort (λ e. e.0) fs up)) (by_stamp_rises es)
    (λ x. sym (stamps_agree x fs) ∙ (stable x ∙ (stamps_agree x es ∙ sym (filter_by_stamp x.0 es))))
