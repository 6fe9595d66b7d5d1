-- Calls, one after another, split into two lists, and with one more between them.
use Rattle.follow_laws.proofs.Common.{◌≡◌, ℕ, Bool, true, false, ◌==◌, cond, List, [], ◌∷◌, ◌++◌, Option, inl, inr, refl, sym, ap, ◌∙◌, subst, ⊎_elim}
use Rattle.follow_laws.proofs.Common.{◌≢◌, ◌⊎◌, All, AllPairs, Contains, filter, eqb-true, eq-eqb, All-contains, Contains-append_cases, AllPairs-cons}
use Rattle.follow_laws.proofs.Common.{All-from_contains, AllPairs-head, AllPairs-tail, AllPairs-append, Contains-nil, Contains-first, Contains-later}
use Rattle.follow_laws.proofs.Common.{Contains-cases, KeyedCall, IsNoEffect, FitInTurn, left_by, AreDistinct}
use Rattle.follow_laws.proofs.DeadLemmas.{bool_cases}

-- if each call is of one kind or of another, some test of its name says which
pub choose : (P Q : KeyedCall → Type 0) (xs : List KeyedCall) → AreDistinct xs → ((x : KeyedCall) → Contains xs x → P x ⊎ Q x)
    → (p : ℕ → Bool) × ((x : KeyedCall) → Contains xs x → ((p x.inv ≡ true) × P x) ⊎ ((p x.inv ≡ false) × Q x))
choose P Q [] distinct each = (λ n. false, λ x x_in. absurd (Contains-nil x x_in))
choose P Q (x ∷ xs) distinct each =
    let (p, are) = choose P Q xs (AllPairs-tail (λ y z. y.inv ≢ z.inv) x xs distinct) (λ y y_in. each y (Contains-later x xs y y_in)) in
    ⊎_elim
    (λ is. (
      λ n. cond (n == x.inv) true (p n),
      λ y y_in. ⊎_elim
          (λ same. inl (subst (λ (z : KeyedCall). cond (z.inv == x.inv) true (p z.inv) ≡ true) same (itself true (p x.inv)), subst P same is))
          (λ further. still true p y further (are y further)) (Contains-cases x xs y y_in),
    ))
    (λ out. (
      λ n. cond (n == x.inv) false (p n),
      λ y y_in. ⊎_elim
          (λ same. inr (subst (λ (z : KeyedCall). cond (z.inv == x.inv) false (p z.inv) ≡ false) same (itself false (p x.inv)), subst Q same out))
          (λ further. still false p y further (are y further)) (Contains-cases x xs y y_in),
    ))
    (each x (Contains-first x xs))
  where
    itself : (b c : Bool) → cond (x.inv == x.inv) b c ≡ b
    itself b c = let is : (x.inv == x.inv) ≡ true = eq-eqb x.inv x.inv refl in rw is refl

    other : (y : KeyedCall) → Contains xs y → (y.inv == x.inv) ≡ false
    other y y_in = by_name (bool_cases (y.inv == x.inv))
      where
        by_name : (y.inv == x.inv ≡ true) ⊎ (y.inv == x.inv ≡ false) → (y.inv == x.inv) ≡ false
        by_name (inr is) = is
        by_name (inl is) = absurd (All-contains (λ z. x.inv ≢ z.inv) xs y (AllPairs-head (λ a b. a.inv ≢ b.inv) x xs distinct) y_in
            (sym (eqb-true y.inv x.inv is)))

    still : (b : Bool) (p : ℕ → Bool) (y : KeyedCall) → Contains xs y → ((p y.inv ≡ true) × P y) ⊎ ((p y.inv ≡ false) × Q y)
        → ((cond (y.inv == x.inv) b (p y.inv) ≡ true) × P y) ⊎ ((cond (y.inv == x.inv) b (p y.inv) ≡ false) × Q y)
    still b p y y_in (inl is) = inl (rw (other y y_in) is.0, is.1)
    still b p y y_in (inr is) = inr (rw (other y y_in) is.0, is.1)

-- calls, one after another, without some that have no effect at a key, fit there, and leave what
-- they leave
pub filter_turn : (key : ℕ) (q : KeyedCall → Bool) (xs : List KeyedCall) (value : Option ℕ)
    → ((x : KeyedCall) → Contains xs x → q x ≡ false → IsNoEffect (x.effect key)) → FitInTurn key value xs
    → FitInTurn key value (filter q xs) × (left_by key value (filter q xs) ≡ left_by key value xs)
filter_turn key q [] value none fit = (tt, refl)
filter_turn key q (x ∷ xs) value none fit =
    by_test (bool_cases (q x)) (filter_turn key q xs ((x.effect key).leaves value) (λ y y_in. none y (Contains-later x xs y y_in)) fit.1)
  where
    by_test : (q x ≡ true) ⊎ (q x ≡ false)
        → FitInTurn key ((x.effect key).leaves value) (filter q xs)
        × (left_by key ((x.effect key).leaves value) (filter q xs) ≡ left_by key ((x.effect key).leaves value) xs)
        → FitInTurn key value (filter q (x ∷ xs)) × (left_by key value (filter q (x ∷ xs)) ≡ left_by key value (x ∷ xs))
    by_test (inl is) rest = rw is ((fit.0, rest.0), rest.1)
    by_test (inr is) rest =
        let same : (x.effect key).leaves value ≡ value = (none x (Contains-first x xs) is).leaves value in
        rw is (
          subst (λ (v : Option ℕ). FitInTurn key v (filter q xs)) same rest.0,
          ap (λ (v : Option ℕ). left_by key v (filter q xs)) (sym same) ∙ rest.1,
        )

-- a call between others
pub inserted : (R : KeyedCall → KeyedCall → Type 0) (first : List KeyedCall) (y : KeyedCall) (second third : List KeyedCall)
    → AllPairs R first → AllPairs R second → AllPairs R third
    → ((x z : KeyedCall) → Contains first x → Contains second z → R x z) → ((x z : KeyedCall) → Contains first x → Contains third z → R x z)
    → ((x z : KeyedCall) → Contains second x → Contains third z → R x z) → ((x : KeyedCall) → Contains first x → R x y)
    → ((z : KeyedCall) → Contains second z → R y z) → ((z : KeyedCall) → Contains third z → R y z)
    → AllPairs R (first ++ y ∷ (second ++ third))
inserted R first y second third one two three one_two one_three two_three one_y y_two y_three =
    AllPairs-append R first (y ∷ (second ++ third)) one
    (AllPairs-cons R y (second ++ third)
    (All-from_contains (R y) (second ++ third) (λ z z_in.
    ⊎_elim (λ s. y_two z s) (λ t. y_three z t) (Contains-append_cases second third z z_in)))
    (AllPairs-append R second third two three
    (All-from_contains (λ x. All (R x) third) second (λ x x_in. All-from_contains (R x) third (λ z z_in. two_three x z x_in z_in)))))
    (All-from_contains (λ x. All (R x) (y ∷ (second ++ third))) first (λ x x_in. All-from_contains (R x) (y ∷ (second ++ third)) (λ z z_in.
    ⊎_elim (λ same. subst (R x) same (one_y x x_in))
    (λ later. ⊎_elim (λ s. one_two x z x_in s) (λ t. one_three x z x_in t) (Contains-append_cases second third z later))
    (Contains-cases y (second ++ third) z z_in))))
