-- Laws of filters and of mapped lists that std has not.
use Rattle.events.proofs.Common.{◌≡◌, Bool, true, false, ◌&&◌, cond, List, [], ◌∷◌, get_or, filter, map, Option, Some, None, refl, sym, ap, ◌∙◌}
use Rattle.events.proofs.Common.{subst, ⊎_elim, arith, AllPairs, Contains, filter_map, cons_option, false≢true, All-map, All-contains}
use Rattle.events.proofs.Common.{Contains-get_or, filter_agree, AllPairs-cons, none-some, same_Some}
use Rattle.events.proofs.Lists.{AllPairs-nil, AllPairs-head, AllPairs-tail, Contains-first, Contains-later, Contains-nil, Contains-cases}
use Rattle.events.proofs.Lists.{All-from_contains, filter_none}
pub use Rattle.events.proofs.Lists.{Contains-filter, Contains-from_filter, AllPairs-at}

-- a filter of a list whose first element is there or not
filter_cond : {X : Type 0} (p : X → Bool) (x : X) (xs : List X) (b : Bool)
    → filter p (cond b (x ∷ xs) xs) ≡ cond (b && p x) (x ∷ filter p xs) (filter p xs)
filter_cond p x xs true = refl
filter_cond p x xs false = refl

-- two filters keep what passes both tests
pub filter-filter : {X : Type 0} (p q : X → Bool) (xs : List X) → filter p (filter q xs) ≡ filter (λ x. q x && p x) xs
filter-filter p q [] = refl
filter-filter p q (x ∷ xs) = filter_cond p x (filter q xs) (q x) ∙ ap (λ zs. cond (q x && p x) (x ∷ zs) zs) (filter-filter p q xs)

-- both tests pass in either order
and_comm : (a b : Bool) → (a && b) ≡ (b && a)
and_comm true true = refl
and_comm true false = refl
and_comm false true = refl
and_comm false false = refl

-- two filters keep the same in either order
pub filter_comm : {X : Type 0} (p q : X → Bool) (xs : List X) → filter p (filter q xs) ≡ filter q (filter p xs)
filter_comm p q xs = filter-filter p q xs ∙ (filter_agree (λ x. q x && p x) (λ x. p x && q x) (λ x. and_comm (q x) (p x)) xs ∙ sym
    (filter-filter q p xs))

-- a test that a second one implies adds nothing to it
and_implied : (a b : Bool) → (a ≡ true → b ≡ true) → (b && a) ≡ a
and_implied true b h = rw (h refl) refl
and_implied false true h = refl
and_implied false false h = refl

-- a filter that keeps all that a second one keeps changes nothing below it
pub filter_implied : {X : Type 0} (p q : X → Bool) (xs : List X) → ((x : X) → p x ≡ true → q x ≡ true)
    → filter p (filter q xs) ≡ filter p xs
filter_implied p q xs h = filter-filter p q xs ∙ filter_agree (λ x. q x && p x) p (λ x. and_implied (p x) (q x) (h x)) xs

-- two tests of which one excludes the other fail together
and_excluded : (a b : Bool) → (a ≡ true → b ≡ false) → (b && a) ≡ false
and_excluded true b h = rw (h refl) refl
and_excluded false true h = refl
and_excluded false false h = refl

-- nothing passes two tests that exclude each other
pub filter_excluded : {X : Type 0} (p q : X → Bool) (xs : List X) → ((x : X) → p x ≡ true → q x ≡ false) → filter p (filter q xs) ≡ []
filter_excluded p q xs h =
    filter-filter p q xs ∙ filter_none (λ x. q x && p x) xs (λ k d within. and_excluded (p (get_or xs k d)) (q (get_or xs k d))
    (h (get_or xs k d)))

-- an element that passes is kept
pub filter_yes : {X : Type 0} (p : X → Bool) (x : X) (xs : List X) → p x ≡ true → filter p (x ∷ xs) ≡ x ∷ filter p xs
filter_yes p x xs h = rw h refl

-- two elements that pass a test are related
abbrev pub AreRelatedIfKept : {X : Type 0} → (X → X → Type 0) → (X → Bool) → X → X → Type 0
AreRelatedIfKept R p x y = p x ≡ true → p y ≡ true → R x y

-- pairs that a filter keeps are pairs of the list
pub AllPairs-from_filter : {X : Type 0} (R : X → X → Type 0) (p : X → Bool) (xs : List X) → AllPairs R (filter p xs)
    → AllPairs (AreRelatedIfKept R p) xs
AllPairs-from_filter R p [] h = AllPairs-nil (AreRelatedIfKept R p)
AllPairs-from_filter R p (x ∷ xs) h = kept (p x) refl h (AllPairs-from_filter R p xs)
  where
    kept : (b : Bool) → p x ≡ b → AllPairs R (cond b (x ∷ filter p xs) (filter p xs))
        → (AllPairs R (filter p xs) → AllPairs (AreRelatedIfKept R p) xs)
        → AllPairs (AreRelatedIfKept R p) (x ∷ xs)
    kept false e k rest = AllPairs-cons (AreRelatedIfKept R p) x xs (λ i d within yes also. absurd (false≢true (sym e ∙ yes))) (rest k)
    kept true e k rest =
        AllPairs-cons (AreRelatedIfKept R p) x xs
        (All-from_contains (AreRelatedIfKept R p x) xs
        (λ y is yes also. All-contains (R x) (filter p xs) y (AllPairs-head R x (filter p xs) k) (Contains-filter p xs y is also)))
        (rest (AllPairs-tail R x (filter p xs) k))

-- what a map gives for an element is among what it gives for the list
pub Contains-filter_map : {X Y : Type 0} (f : X → Option Y) (xs : List X) (x : X) (y : Y) → Contains xs x → f x ≡ Some y
    → Contains (filter_map f xs) y
Contains-filter_map f [] x y h is = absurd (Contains-nil x h)
Contains-filter_map {Y = Y} f (z ∷ xs) x y h is = ⊎_elim
    (λ same. let here : f z ≡ Some y = ap f same ∙ is in rw here (Contains-first y (filter_map f xs)))
    (λ later. in_rest (f z) (Contains-filter_map f xs x y later is)) (Contains-cases z xs x h)
  where
    in_rest : (o : Option Y) → Contains (filter_map f xs) y → Contains (cons_option o (filter_map f xs)) y
    in_rest None k = k
    in_rest (Some w) k = Contains-later w (filter_map f xs) y k

-- what a map gives for a list, it gives for one of its elements
pub Contains-from_filter_map : {X Y : Type 0} (f : X → Option Y) (xs : List X) (y : Y) → Contains (filter_map f xs) y → (x : X)
    × Contains xs x × (f x ≡ Some y)
Contains-from_filter_map f [] y h = absurd (Contains-nil y h)
Contains-from_filter_map {X = X} {Y = Y} f (z ∷ xs) y h = from (f z) refl h (Contains-from_filter_map f xs y)
  where
    from : (o : Option Y) → f z ≡ o → Contains (cons_option o (filter_map f xs)) y
        → (Contains (filter_map f xs) y → (x : X) × Contains xs x × (f x ≡ Some y))
        → (x : X) × Contains (z ∷ xs) x × (f x ≡ Some y)
    from None e k rest = let found = rest k in (found.0, Contains-later z xs found.0 found.1, found.2)
    from (Some w) e k rest = ⊎_elim (λ same. (z, Contains-first z xs, e ∙ ap Some same))
        (λ later. let found = rest later in (found.0, Contains-later z xs found.0 found.1, found.2))
        (Contains-cases w (filter_map f xs) y k)

-- what a map gives for two elements is related
abbrev pub AreRelatedAs : {X Y : Type 0} → (Y → Y → Type 0) → (X → Option Y) → X → X → Type 0
AreRelatedAs {X} {Y} R f x z = (a b : Y) → f x ≡ Some a → f z ≡ Some b → R a b

-- a relation on all pairs that a map gives is one on the pairs of the list
pub AllPairs-from_filter_map : {X Y : Type 0} (R : Y → Y → Type 0) (f : X → Option Y) (xs : List X) → AllPairs R (filter_map f xs)
    → AllPairs (AreRelatedAs R f) xs
AllPairs-from_filter_map R f [] h = AllPairs-nil (AreRelatedAs R f)
AllPairs-from_filter_map {X} {Y} R f (x ∷ xs) h = from (f x) refl h (AllPairs-from_filter_map R f xs)
  where
    from : (o : Option Y) → f x ≡ o → AllPairs R (cons_option o (filter_map f xs))
        → (AllPairs R (filter_map f xs) → AllPairs (AreRelatedAs R f) xs)
        → AllPairs (AreRelatedAs R f) (x ∷ xs)
    from None e k rest = AllPairs-cons (AreRelatedAs R f) x xs (λ i d within a b first second. absurd
        (none-some a (sym e ∙ first))) (rest k)
    from (Some y) e k rest =
        AllPairs-cons (AreRelatedAs R f) x xs
        (All-from_contains (AreRelatedAs R f x) xs
        (λ z is a b first second. subst (λ c. R c b) (same_Some y a (sym e ∙ first))
        (All-contains (R y) (filter_map f xs) b (AllPairs-head R y (filter_map f xs) k) (Contains-filter_map f xs z b is second))))
        (rest (AllPairs-tail R y (filter_map f xs) k))

-- a relation on all pairs of a list is one on the pairs that a map gives
pub AllPairs-filter_map : {X Y : Type 0} (R : Y → Y → Type 0) (f : X → Option Y) (xs : List X) → AllPairs (AreRelatedAs R f) xs
    → AllPairs R (filter_map f xs)
AllPairs-filter_map R f [] h = AllPairs-nil R
AllPairs-filter_map {X} {Y} R f (x ∷ xs) h = onto (f x) refl (AllPairs-filter_map R f xs (AllPairs-tail (AreRelatedAs R f) x xs h))
  where
    onto : (o : Option Y) → f x ≡ o → AllPairs R (filter_map f xs) → AllPairs R (cons_option o (filter_map f xs))
    onto None e rest = rest
    onto (Some y) e rest =
        AllPairs-cons R y (filter_map f xs)
        (All-from_contains (R y) (filter_map f xs)
        (λ b is. let found = Contains-from_filter_map f xs b is in
        All-contains (AreRelatedAs R f x) xs found.0 (AllPairs-head (AreRelatedAs R f) x xs h) found.1 y b e found.2)) rest

-- what holds of each two elements of a list that are related is a relation of its pairs
pub AllPairs-weaker : {X : Type 0} (R S : X → X → Type 0) (xs : List X)
    → ((x y : X) → Contains xs x → Contains xs y → R x y → S x y) → AllPairs R xs
    → AllPairs S xs
AllPairs-weaker R S xs weaker h i j d before within =
    weaker (get_or xs i d) (get_or xs j d) (Contains-get_or xs i d (omega arith)) (Contains-get_or xs j d within) (h i j d before within)

-- the pairs of a mapped list
pub AllPairs-map : {X Y : Type 0} (R : Y → Y → Type 0) (f : X → Y) (xs : List X) → AllPairs (λ x z. R (f x) (f z)) xs
    → AllPairs R (map f xs)
AllPairs-map R f [] h = AllPairs-nil R
AllPairs-map R f (x ∷ xs) h =
    AllPairs-cons R (f x) (map f xs) (All-map (R (f x)) f xs (AllPairs-head (λ x z. R (f x) (f z)) x xs h))
    (AllPairs-map R f xs (AllPairs-tail (λ x z. R (f x) (f z)) x xs h))

-- what a map gives for an element is in the mapped list
pub Contains-map : {X Y : Type 0} (f : X → Y) (xs : List X) (x : X) → Contains xs x → Contains (map f xs) (f x)
Contains-map f [] x h = absurd (Contains-nil x h)
Contains-map f (y ∷ xs) x h = ⊎_elim
    (λ same. subst (λ z. Contains (f y ∷ map f xs) (f z)) same (Contains-first (f y) (map f xs)))
    (λ later. Contains-later (f y) (map f xs) (f x) (Contains-map f xs x later)) (Contains-cases y xs x h)

-- what is in a mapped list comes from an element
pub Contains-from_map : {X Y : Type 0} (f : X → Y) (xs : List X) (y : Y) → Contains (map f xs) y → (x : X) × Contains xs x × (f x ≡ y)
Contains-from_map f [] y h = absurd (Contains-nil y h)
Contains-from_map f (x ∷ xs) y h = ⊎_elim (λ same. (x, Contains-first x xs, same))
    (λ later. let found = Contains-from_map f xs y later in (found.0, Contains-later x xs found.0 found.1, found.2))
    (Contains-cases (f x) (map f xs) y h)

-- the pairs of a list, from those of a mapped one
pub AllPairs-from_map : {X Y : Type 0} (R : Y → Y → Type 0) (f : X → Y) (xs : List X) → AllPairs R (map f xs)
    → AllPairs (λ x z. R (f x) (f z)) xs
AllPairs-from_map R f [] h = AllPairs-nil (λ x z. R (f x) (f z))
AllPairs-from_map R f (x ∷ xs) h =
    AllPairs-cons (λ x z. R (f x) (f z)) x xs
    (All-from_contains (λ z. R (f x) (f z)) xs
    (λ z is. All-contains (R (f x)) (map f xs) (f z) (AllPairs-head R (f x) (map f xs) h) (Contains-map f xs z is)))
    (AllPairs-from_map R f xs (AllPairs-tail R (f x) (map f xs) h))

-- two lists that are kept alike after one element are kept alike
pub filter_rest : {X : Type 0} (b : Bool) (x : X) (xs ys : List X) → cond b (x ∷ xs) xs ≡ cond b (x ∷ ys) ys → xs ≡ ys
filter_rest true x xs ys h = cc
filter_rest false x xs ys h = h
