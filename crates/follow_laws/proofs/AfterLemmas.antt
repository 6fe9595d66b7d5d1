-- Names of calls, and calls without effect.
use Rattle.follow_laws.proofs.Common.{◌≡◌, ℕ, ◌==◌, Bool, true, false, ◌||◌, List, [], ◌∷◌, Option, refl, ap, ◌∙◌, ⊎_elim, Contains, eqb-true, eq-eqb}
use Rattle.follow_laws.proofs.Common.{Contains-nil, Contains-first, Contains-later, Contains-cases, KeyedCall, IsNoEffect, left_by, has_call}

-- a call is named among some calls if one of them has its name
pub named_in : (calls : List KeyedCall) (a : KeyedCall) → Contains calls a → has_call calls a.inv ≡ true
named_in [] a a_in = absurd (Contains-nil a a_in)
named_in (x ∷ calls) a a_in =
    ⊎_elim
    (λ first. let same : x.inv ≡ a.inv = ap (λ (y : KeyedCall). y.inv) first in rw (eq-eqb x.inv a.inv same) refl)
    (λ later. by_first (x.inv == a.inv) (named_in calls a later))
    (Contains-cases x calls a a_in)
  where
    by_first : (b : Bool) → has_call calls a.inv ≡ true → (b || has_call calls a.inv) ≡ true
    by_first true named = refl
    by_first false named = named

pub from_named : (calls : List KeyedCall) (inv : ℕ) → has_call calls inv ≡ true → (a : KeyedCall) × Contains calls a × (a.inv ≡ inv)
from_named [] inv named = cc
from_named (x ∷ calls) inv named = by_first (x.inv == inv) refl (λ later. from_named calls inv later) named
  where
    by_first : (b : Bool) → (x.inv == inv) ≡ b → (has_call calls inv ≡ true → (a : KeyedCall) × Contains calls a × (a.inv ≡ inv))
        → ((x.inv == inv) || has_call calls inv) ≡ true → (a : KeyedCall) × Contains (x ∷ calls) a × (a.inv ≡ inv)
    by_first true is further h = (x, Contains-first x calls, eqb-true x.inv inv is)
    by_first false is further h = let (a, a_in, a_is) = further (rw is at h) in (a, Contains-later x calls a a_in, a_is)

-- calls without effect at a key leave it as it is
pub none_left : (key : ℕ) (xs : List KeyedCall) (value : Option ℕ) → ((x : KeyedCall) → Contains xs x → IsNoEffect (x.effect key))
    → left_by key value xs ≡ value
none_left key [] value none = refl
none_left key (x ∷ xs) value none =
    none_left key xs ((x.effect key).leaves value) (λ y y_in. none y (Contains-later x xs y y_in)) ∙ (none x (Contains-first x xs)).leaves value
