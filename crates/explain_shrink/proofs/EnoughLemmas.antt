-- Calls that are enough.
use Rattle.explain_shrink.proofs.Common.{◌≡◌, ℕ, ◌<◌, ◌≤◌, Bool, true, false, cond, List, [], ◌∷◌, length, refl, sym, ap, ◌∙◌, subst, ⊎_elim, arith, ◌==◌}
use Rattle.explain_shrink.proofs.Common.{not, filter, Contains, false≢true, eq-eqb, length-map, Contains-nil, Contains-cases, Operation}
use Rattle.explain_shrink.proofs.Common.{NonePrecedesItself, Contents, IsLinearizable, InvocationsRise, rest_of, are_held, IsRest, others_than}
use Rattle.explain_shrink.proofs.RestLemmas.{rest_rises, rest_apart, rest_relaxed, rest_few}

-- calls that are left and have no order are enough
pub rest_enough : (start : Contents) (calls : List Operation) (places : List ℕ) (rest : List Operation) → InvocationsRise calls
    → NonePrecedesItself calls → are_held places calls ≡ false → rest ≡ rest_of places calls → (IsLinearizable start rest → ⊥)
    → IsRest start calls places rest
rest_enough start calls places rest rise apart free is none =
    subst (IsRest start calls places) (sym is) (record {
      enough = record {
        relaxed = rest_relaxed places calls rise free;
        rise = rest_rises places calls rise;
        apart = rest_apart places calls apart;
        none = subst (λ (l : List Operation). IsLinearizable start l → ⊥) is none;
      };
      fewer = rest_few places calls rise;
    })

-- ---- the places without one are fewer

no_longer : {X : Type 0} (p : X → Bool) (xs : List X) → length (filter p xs) ≤ length xs
no_longer p [] = omega arith
no_longer p (x ∷ xs) = by_test (no_longer p xs) (p x)
  where
    by_test : length (filter p xs) ≤ length xs → (t : Bool) → length (cond t (x ∷ filter p xs) (filter p xs)) ≤ length (x ∷ xs)
    by_test most true = omega (arith, most)
    by_test most false = omega (arith, most)

fewer_others : (kept : List Operation) (a : Operation) → Contains kept a
    → length (filter (λ (b : Operation). not (b.inv == a.inv)) kept) < length kept
fewer_others [] a is = absurd (Contains-nil a is)
fewer_others (b ∷ kept) a is =
    by_test (no_longer (λ (c : Operation). not (c.inv == a.inv)) kept) (λ later. fewer_others kept a later) (b.inv == a.inv) refl
  where
    rest : List Operation
    rest = filter (λ (c : Operation). not (c.inv == a.inv)) kept

    by_test : length rest ≤ length kept → (Contains kept a → length rest < length kept) → (t : Bool) → (b.inv == a.inv) ≡ t
        → length (cond (not t) (b ∷ rest) rest) < length (b ∷ kept)
    by_test most less true e = omega (arith, most)
    by_test most less false e = ⊎_elim
        (λ same. absurd (false≢true (sym e ∙ eq-eqb b.inv a.inv (ap (λ (o : Operation). o.inv) same))))
        (λ later. let fewer = less later in omega (arith, fewer))
        (Contains-cases b kept a is)

pub others_fewer : (kept : List Operation) (a : Operation) → Contains kept a → length (others_than kept a.inv) < length kept
others_fewer kept a is =
    let less = fewer_others kept a is in
    let same = length-map (filter (λ (b : Operation). not (b.inv == a.inv)) kept) (λ (b : Operation). b.inv) in
    omega (arith, less, same)
