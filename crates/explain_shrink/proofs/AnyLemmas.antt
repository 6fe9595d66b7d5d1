-- Tests that pass for none of a list, or for some.
use Rattle.explain_shrink.proofs.Common.{◌≡◌, Bool, true, false, List, [], ◌∷◌, refl, ap, ◌∙◌, subst, ⊎_elim, ◌||◌, Contains, list_any, false≢true}
use Rattle.explain_shrink.proofs.Common.{or_parts, or_left, or_right, Contains-nil, Contains-cases, Contains-first, Contains-later}

-- if a test passes for none, it fails for each
pub none_of : {X : Type 0} (test : X → Bool) (xs : List X) (x : X) → list_any test xs ≡ false → Contains xs x → test x ≡ false
none_of test [] x h is = absurd (Contains-nil x is)
none_of test (y ∷ xs) x h is =
    let parts = or_parts (test y) (list_any test xs) h in
    ⊎_elim (λ same. subst (λ z. test z ≡ false) same parts.0) (λ later. none_of test xs x parts.1 later) (Contains-cases y xs x is)

-- one for which it passes makes it pass for some, and there is one where it does
pub any_of : {X : Type 0} (test : X → Bool) (xs : List X) (x : X) → Contains xs x → test x ≡ true → list_any test xs ≡ true
any_of test [] x is h = absurd (Contains-nil x is)
any_of test (y ∷ xs) x is h = ⊎_elim
    (λ same. or_left (test y) (list_any test xs) (ap test same ∙ h))
    (λ later. or_right (test y) (list_any test xs) (any_of test xs x later h))
    (Contains-cases y xs x is)

pub found_any : {X : Type 0} (test : X → Bool) (xs : List X) → list_any test xs ≡ true → (x : X) × Contains xs x × (test x ≡ true)
found_any test [] h = absurd (false≢true h)
found_any {X} test (y ∷ xs) h = by_test (λ any. found_any test xs any) (test y) refl h
  where
    by_test : (list_any test xs ≡ true → (x : X) × Contains xs x × (test x ≡ true)) → (t : Bool) → test y ≡ t
        → (t || list_any test xs) ≡ true → (x : X) × Contains (y ∷ xs) x × (test x ≡ true)
    by_test find true e any = (y, Contains-first y xs, e)
    by_test find false e any = let later = find any in (later.0, Contains-later y xs later.0 later.1, later.2)
