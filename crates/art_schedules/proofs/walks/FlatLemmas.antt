-- Members and orders of lists that are joined from a list for each element.
use Rattle.art_schedules.proofs.Common.{List, [], ◌∷◌, sym, subst, ⊎_elim, All, AllPairs, Contains, flat_map, flat_map-cons, Contains-append_left}
use Rattle.art_schedules.proofs.Common.{Contains-append_right, Contains-append_cases, All-contains, AllPairs-nil, AllPairs-append, AllPairs-head}
use Rattle.art_schedules.proofs.Common.{AllPairs-tail, Contains-first, Contains-later, Contains-nil, Contains-cases, All-from_contains}

pub Contains-flat_map : {X A : Type 0} (f : X → List A) (xs : List X) (x : X) (a : A) → Contains xs x → Contains (f x) a
    → Contains (flat_map f xs) a
Contains-flat_map f [] x a h k = absurd (Contains-nil x h)
Contains-flat_map f (y ∷ xs) x a h k =
    subst (λ l. Contains l a) (sym (flat_map-cons f y xs))
    (⊎_elim (λ is. Contains-append_left (f y) (flat_map f xs) a (subst (λ z. Contains (f z) a) (sym is) k))
    (λ later. Contains-append_right (f y) (flat_map f xs) a (Contains-flat_map f xs x a later k)) (Contains-cases y xs x h))

pub Contains-from_flat_map : {X A : Type 0} (f : X → List A) (xs : List X) (a : A) → Contains (flat_map f xs) a → (x : X) × Contains xs x
    × Contains (f x) a
Contains-from_flat_map f [] a h = absurd (Contains-nil a h)
Contains-from_flat_map {X} f (y ∷ xs) a h =
    ⊎_elim (λ here. (y, Contains-first y xs, here)) (λ later. go (Contains-from_flat_map f xs a later))
    (Contains-append_cases (f y) (flat_map f xs) a (subst (λ l. Contains l a) (flat_map-cons f y xs) h))
  where
    go : (x : X) × Contains xs x × Contains (f x) a → (x : X) × Contains (y ∷ xs) x × Contains (f x) a
    go r = (r.0, Contains-later y xs r.0 r.1, r.2)

-- Each list is in order, and so are elements of two lists of which the one is for an earlier element.
pub AllPairs-flat_map : {X A : Type 0} (Q : X → X → Type 0) (R : A → A → Type 0) (f : X → List A) (xs : List X) → AllPairs Q xs
    → ((x : X) → Contains xs x → AllPairs R (f x))
    → ((x y : X) (a b : A) → Contains xs x → Contains xs y → Q x y → Contains (f x) a → Contains (f y) b → R a b)
    → AllPairs R (flat_map f xs)
AllPairs-flat_map Q R f [] up each across = AllPairs-nil R
AllPairs-flat_map Q R f (y ∷ xs) up each across =
    subst (AllPairs R) (sym (flat_map-cons f y xs))
    (AllPairs-append R (f y) (flat_map f xs) (each y (Contains-first y xs))
    (AllPairs-flat_map Q R f xs (AllPairs-tail Q y xs up) (λ x h. each x (Contains-later y xs x h))
    (λ x z a b h k. across x z a b (Contains-later y xs x h) (Contains-later y xs z k)))
    (All-from_contains (λ a. All (R a) (flat_map f xs)) (f y) (λ a h. All-from_contains (R a) (flat_map f xs) (λ b k.
    (let from = Contains-from_flat_map f xs b k in
    across y from.0 a b (Contains-first y xs) (Contains-later y xs from.0 from.1)
    (All-contains (Q y) xs from.0 (AllPairs-head Q y xs up) from.1) h from.2)))))
