-- Laws of numbers in lists: the least, the greatest, whether one is there.
use Rattle.events.proofs.Common.{◌≡◌, ℕ, zero, suc, ◌+◌, ◌<◌, ◌≤◌, Bool, true, false, List, Some, None, [], ◌∷◌, ◌++◌, length, get_or, take, Option}
use Rattle.events.proofs.Common.{refl, sym, ap, ◌∙◌, not, ◌&&◌, subst, ⊎_elim, arith, map, ◌==◌, min, max, ◌||◌, slice_get, IsSomeAnd, Contains}
use Rattle.events.proofs.Common.{nat_cmp, is_lt, eq-eqb, eqb-true, or_cases, or_left, or_right, false≢true, cases_lt, lt-ltb, le-ltb, ne_eqb}
use Rattle.events.proofs.Common.{cases_order, map_more, length-map, length-take, list_any-append}
use Rattle.std.specs.Prelude.{◌==◌, map}
use Rattle.events.specs.Lists.{least, greatest, has_number}
use Rattle.events.proofs.Lists.{Contains-first, Contains-later, Contains-nil, Contains-cases}

-- a number below the count of a list has an element
pub slice_get-below : {X : Type 0} (xs : List X) (n : ℕ) → n < length xs → (x : X) × (slice_get xs n ≡ Some x)
slice_get-below [] n h = absurd (omega arith)
slice_get-below (x ∷ xs) zero h = (x, refl)
slice_get-below (x ∷ xs) (suc n) h = slice_get-below xs n (omega arith)

-- a list of which something is said at a place reaches that place
pub IsSomeAnd-within : {X : Type 0} (xs : List X) (n : ℕ) (P : X → Type 0) → IsSomeAnd (slice_get xs n) P → n < length xs
IsSomeAnd-within [] n P h = absurd h
IsSomeAnd-within (x ∷ xs) zero P h = omega arith
IsSomeAnd-within (x ∷ xs) (suc n) P h = omega (arith, IsSomeAnd-within xs n P h)

-- the greatest number, after one more
pub greatest-push : (xs : List ℕ) (x : ℕ) → greatest (xs ++ x ∷ []) ≡ max (greatest xs) x
greatest-push [] x = omega arith
greatest-push (y ∷ xs) x = omega (arith, greatest-push xs x)

-- the least number, after one more
pub least-push : (xs : List ℕ) (x : ℕ) → 0 < length xs → least (xs ++ x ∷ []) ≡ min (least xs) x
least-push [] x h = absurd (omega arith)
least-push (y ∷ []) x h = refl
least-push (y ∷ z ∷ xs) x h = omega (arith, least-push (z ∷ xs) x (omega arith))

-- the greatest key of the first elements, one element further
pub greatest_more : {X : Type 0} (key : X → ℕ) (xs : List X) (i : ℕ) (d : X) → i < length xs
    → greatest (map key (take (i + 1) xs)) ≡ max (greatest (map key (take i xs))) (key (get_or xs i d))
greatest_more key xs i d h = ap greatest (map_more key xs i d h) ∙ greatest-push (map key (take i xs)) (key (get_or xs i d))

-- the least key of the first elements, one element further
pub least_more : {X : Type 0} (key : X → ℕ) (xs : List X) (i : ℕ) (d : X) → 0 < i → i < length xs
    → least (map key (take (i + 1) xs)) ≡ min (least (map key (take i xs))) (key (get_or xs i d))
least_more key xs i d some h =
    ap least (map_more key xs i d h) ∙ least-push (map key (take i xs)) (key (get_or xs i d)) (simp (length-map, length-take) (omega arith))

-- the least key of one element
pub least_first : {X : Type 0} (key : X → ℕ) (xs : List X) (d : X) → 0 < length xs → least (map key (take 1 xs)) ≡ key (get_or xs 0 d)
least_first key [] d h = absurd (omega arith)
least_first key (x ∷ xs) d h = refl

-- each key of a list is at most their greatest
pub greatest_bound : {X : Type 0} (key : X → ℕ) (xs : List X) (x : X) → Contains xs x → key x ≤ greatest (map key xs)
greatest_bound key [] x h = absurd (Contains-nil x h)
greatest_bound key (y ∷ xs) x h =
    ⊎_elim (λ is. let e = ap key is in omega arith) (λ later. omega (arith, greatest_bound key xs x later)) (Contains-cases y xs x h)

-- the test finds only numbers that are in the list
pub has_number-Contains : (numbers : List ℕ) (n : ℕ) → has_number numbers n ≡ true → Contains numbers n
has_number-Contains [] n h = absurd (false≢true h)
has_number-Contains (m ∷ numbers) n h =
    ⊎_elim (λ is. subst (λ k. Contains (m ∷ numbers) k) (eqb-true m n is) (Contains-first m numbers))
    (λ later. Contains-later m numbers n (has_number-Contains numbers n later)) (or_cases (m == n) (has_number numbers n) h)

-- the test finds each number that is in the list
pub has_number-from_Contains : (numbers : List ℕ) (n : ℕ) → Contains numbers n → has_number numbers n ≡ true
has_number-from_Contains [] n h = absurd (Contains-nil n h)
has_number-from_Contains (m ∷ numbers) n h =
    ⊎_elim (λ is. or_left (m == n) (has_number numbers n) (eq-eqb m n is))
    (λ later. or_right (m == n) (has_number numbers n) (has_number-from_Contains numbers n later)) (Contains-cases m numbers n h)

-- whether a number is in a list, after one more
pub has_number-push : (numbers : List ℕ) (m n : ℕ) → has_number (numbers ++ m ∷ []) n ≡ (has_number numbers n || (m == n))
has_number-push numbers m n = list_any-append (λ k. k == n) numbers (m ∷ []) ∙ ap (λ b. has_number numbers n || b) (or_false (m == n))
  where
    or_false : (b : Bool) → (b || false) ≡ b
    or_false true = refl
    or_false false = refl

-- the least key of a list is at most each of them
pub least_bound : {X : Type 0} (key : X → ℕ) (xs : List X) (x : X) → Contains xs x → least (map key xs) ≤ key x
least_bound key [] x h = absurd (Contains-nil x h)
least_bound key (y ∷ []) x h = ⊎_elim (λ is. let e = ap key is in omega arith) (λ later. absurd (Contains-nil x later))
    (Contains-cases y [] x h)
least_bound key (y ∷ z ∷ xs) x h =
    ⊎_elim (λ is. let e = ap key is in omega arith) (λ later. omega (arith, least_bound key (z ∷ xs) x later))
    (Contains-cases y (z ∷ xs) x h)

-- what is said of an element at a place is said of an element that is there
pub some_at : {X : Type 0} (o : Option X) (P : X → Type 0) → IsSomeAnd o P → (x : X) × (o ≡ Some x) × P x
some_at None P h = absurd h
some_at (Some x) P h = (x, refl, h)

-- the greatest key of a list is the key of one of its elements
pub greatest_is : {X : Type 0} (key : X → ℕ) (xs : List X) (x : X) → Contains xs x → (y : X) × Contains xs y
    × (greatest (map key xs) ≡ key y)
greatest_is key [] x h = absurd (Contains-nil x h)
greatest_is key (z ∷ []) x h = (z, Contains-first z [], omega arith)
greatest_is key (z ∷ w ∷ xs) x h =
    let (y, is, same) = greatest_is key (w ∷ xs) w (Contains-first w xs) in
    ⊎_elim (λ less. (y, Contains-later z (w ∷ xs) y is, omega arith)) (λ more. (z, Contains-first z (w ∷ xs), omega arith))
    (cases_lt (key z) (key y))

-- if two numbers differ, neither is the other
differ : (m n : ℕ) → m < n → ((m == n) ≡ false) × ((n == m) ≡ false)
differ m n less = (ne_eqb m n (λ same. omega arith), ne_eqb n m (λ same. omega arith))

-- two numbers of which neither is less than the other are one
pub tie_is_same : (m n : ℕ) → (not (is_lt (nat_cmp m n)) && not (is_lt (nat_cmp n m))) ≡ (n == m)
tie_is_same m n = ⊎_elim equal (λ other. ⊎_elim less more other) (cases_order m n)
  where
    equal : m ≡ n → (not (is_lt (nat_cmp m n)) && not (is_lt (nat_cmp n m))) ≡ (n == m)
    equal same = rw (le-ltb m n (omega arith), le-ltb n m (omega arith), eq-eqb m n same, eq-eqb n m (sym same)) refl

    less : m < n → (not (is_lt (nat_cmp m n)) && not (is_lt (nat_cmp n m))) ≡ (n == m)
    less h = rw (lt-ltb m n h, (differ m n h).1) refl

    more : n < m → (not (is_lt (nat_cmp m n)) && not (is_lt (nat_cmp n m))) ≡ (n == m)
    more h = rw (le-ltb m n (omega arith), (differ n m h).1, (differ n m h).0, lt-ltb n m h) refl
