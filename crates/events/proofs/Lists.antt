-- Laws of lists that std has not.
use Rattle.events.proofs.Common.{◌≡◌, ℕ, zero, suc, ◌<◌, ◌≤◌, Bool, true, false, List, [], ◌∷◌, ◌++◌, length, get_or, take, refl, sym, ap, ◌∙◌, subst}
use Rattle.events.proofs.Common.{inl, inr, ⊎_elim, arith, ◌≢◌, ◌⊎◌, slice_get, All, Any, AllPairs, Contains, range_with_len, All-weaker, All-nil}
use Rattle.events.proofs.Common.{All-head, All-tail, All-append, All-cons, Contains-get_or, All-contains, Contains-append_left, Contains-append_right}
use Rattle.events.proofs.Common.{Contains-append_cases, AllPairs-cons, cond_both, length-range_with_len, get_or-range_with_len, length-take}
use Rattle.events.proofs.Common.{length-append, none-some, same_Some, slice_get-get_or, get_or_from_slice_get, slice_get_within}
use Rattle.std.specs.Prelude.{Some, filter}
use Rattle.std.proofs.Math.Nat.{zero-add}

-- there are no pairs in the empty list
pub AllPairs-nil : {X : Type 0} (R : X → X → Type 0) → AllPairs R []
AllPairs-nil R i j d before h = absurd (omega arith)

-- the first element is related to each later one
pub AllPairs-head : {X : Type 0} (R : X → X → Type 0) (x : X) (xs : List X) → AllPairs R (x ∷ xs) → All (R x) xs
AllPairs-head R x xs h k d within = h 0 (suc k) d (omega arith) (omega arith)

-- the pairs of the rest are pairs of the whole
pub AllPairs-tail : {X : Type 0} (R : X → X → Type 0) (x : X) (xs : List X) → AllPairs R (x ∷ xs) → AllPairs R xs
AllPairs-tail R x xs h i j d before within = h (suc i) (suc j) d (omega arith) (omega arith)

-- two lists of related pairs join where each element of the first is related to each of the second
pub AllPairs-append : {X : Type 0} (R : X → X → Type 0) (xs ys : List X) → AllPairs R xs → AllPairs R ys → All (λ x. All (R x) ys) xs
    → AllPairs R (xs ++ ys)
AllPairs-append R [] ys h k across = k
AllPairs-append R (x ∷ xs) ys h k across =
    AllPairs-cons R x (xs ++ ys)
    (All-append (R x) xs ys (AllPairs-head R x xs h) (All-head (λ y. All (R y) ys) x xs across))
    (AllPairs-append R xs ys (AllPairs-tail R x xs h) k (All-tail (λ y. All (R y) ys) x xs across))

-- what holds of each element of a whole holds of each element of its front
pub All-front : {X : Type 0} (P : X → Type 0) (xs ys : List X) → All P (xs ++ ys) → All P xs
All-front P [] ys h = All-nil P
All-front P (x ∷ xs) ys h = All-cons P x xs (All-head P x (xs ++ ys) h) (All-front P xs ys (All-tail P x (xs ++ ys) h))

-- what holds of each element of a whole holds of each element of its back
pub All-back : {X : Type 0} (P : X → Type 0) (xs ys : List X) → All P (xs ++ ys) → All P ys
All-back P [] ys h = h
All-back P (x ∷ xs) ys h = All-back P xs ys (All-tail P x (xs ++ ys) h)

-- the pairs of a front are pairs of the whole
pub AllPairs-front : {X : Type 0} (R : X → X → Type 0) (xs ys : List X) → AllPairs R (xs ++ ys) → AllPairs R xs
AllPairs-front R [] ys h = AllPairs-nil R
AllPairs-front R (x ∷ xs) ys h =
    AllPairs-cons R x xs (All-front (R x) xs ys (AllPairs-head R x (xs ++ ys) h)) (AllPairs-front R xs ys (AllPairs-tail R x (xs ++ ys) h))

-- the pairs of a back are pairs of the whole
pub AllPairs-back : {X : Type 0} (R : X → X → Type 0) (xs ys : List X) → AllPairs R (xs ++ ys) → AllPairs R ys
AllPairs-back R [] ys h = h
AllPairs-back R (x ∷ xs) ys h = AllPairs-back R xs ys (AllPairs-tail R x (xs ++ ys) h)

-- each element of a front is related to each element of the back
pub AllPairs-across : {X : Type 0} (R : X → X → Type 0) (xs ys : List X) → AllPairs R (xs ++ ys) → All (λ x. All (R x) ys) xs
AllPairs-across R [] ys h = All-nil (λ x. All (R x) ys)
AllPairs-across R (x ∷ xs) ys h =
    All-cons (λ z. All (R z) ys) x xs (All-back (R x) xs ys (AllPairs-head R x (xs ++ ys) h))
    (AllPairs-across R xs ys (AllPairs-tail R x (xs ++ ys) h))

-- the first element of a list is in it
pub Contains-first : {X : Type 0} (x : X) (xs : List X) → Contains (x ∷ xs) x
Contains-first x xs = (0, omega arith, refl)

-- what is in the rest is in the list
pub Contains-later : {X : Type 0} (y : X) (xs : List X) (x : X) → Contains xs x → Contains (y ∷ xs) x
Contains-later y xs x h = (suc h.0, omega (arith, h.1), h.2)

-- nothing is in the empty list
pub Contains-nil : {X : Type 0} (x : X) → Contains [] x → ⊥
Contains-nil x h = absurd (omega (arith, h.1))

-- what is in a list is its first element or is in the rest
pub Contains-cases : {X : Type 0} (y : X) (xs : List X) (x : X) → Contains (y ∷ xs) x → (y ≡ x) ⊎ Contains xs x
Contains-cases y xs x (zero, within, is) = inl is
Contains-cases y xs x (suc k, within, is) = inr (k, omega arith, is)

-- what holds of each thing that is in a list holds of all its elements
pub All-from_contains : {X : Type 0} (P : X → Type 0) (xs : List X) → ((x : X) → Contains xs x → P x) → All P xs
All-from_contains P xs h k d within = h (get_or xs k d) (Contains-get_or xs k d within)

-- what is at a place of a list is in it
pub Contains-at : {X : Type 0} (xs : List X) (i : ℕ) (x : X) → slice_get xs i ≡ Some x → Contains xs x
Contains-at xs i x h = (i, slice_get_within xs i x h, get_or_from_slice_get xs i x x h)

-- what is in a list is at a place of it
pub place_of-Contains : {X : Type 0} (xs : List X) (x : X) → Contains xs x → (i : ℕ) × (slice_get xs i ≡ Some x)
place_of-Contains xs x h = (h.0, slice_get-get_or xs h.0 x h.1 ∙ ap Some h.2)

-- a filter keeps a list whose elements all pass
pub filter_all : {X : Type 0} (p : X → Bool) (xs : List X) → All (λ x. p x ≡ true) xs → filter p xs ≡ xs
filter_all p [] h = refl
filter_all p (x ∷ xs) h = rw (All-head (λ y. p y ≡ true) x xs h, filter_all p xs (All-tail (λ y. p y ≡ true) x xs h))

-- a filter keeps nothing of a list whose elements all fail
pub filter_none : {X : Type 0} (p : X → Bool) (xs : List X) → All (λ x. p x ≡ false) xs → filter p xs ≡ []
filter_none p [] h = refl
filter_none p (x ∷ xs) h = rw (All-head (λ y. p y ≡ false) x xs h, filter_none p xs (All-tail (λ y. p y ≡ false) x xs h))

-- a property of the first element is a property of some element
pub Any-first : {X : Type 0} (P : X → Type 0) (x : X) (xs : List X) → P x → Any P (x ∷ xs)
Any-first P x xs h = (0, x, omega arith, refl, h)

-- a property of some element of the rest is a property of some element
pub Any-later : {X : Type 0} (P : X → Type 0) (x : X) (xs : List X) → Any P xs → Any P (x ∷ xs)
Any-later P x xs h = (suc h.0, h.1, omega (arith, h.2), h.3, h.4)

-- the front of a joined list, by place
pub slice_get-append_left : {X : Type 0} (xs ys : List X) (i : ℕ) → i < length xs → slice_get (xs ++ ys) i ≡ slice_get xs i
slice_get-append_left [] ys i h = absurd (omega arith)
slice_get-append_left (x ∷ xs) ys zero h = refl
slice_get-append_left (x ∷ xs) ys (suc i) h = slice_get-append_left xs ys i (omega arith)

-- the places of a front are those of the whole
pub slice_get-take : {X : Type 0} (i : ℕ) (xs : List X) (j : ℕ) → j < i → slice_get (take i xs) j ≡ slice_get xs j
slice_get-take zero xs j h = absurd (omega arith)
slice_get-take (suc i) [] j h = refl
slice_get-take (suc i) (x ∷ xs) zero h = refl
slice_get-take (suc i) (x ∷ xs) (suc j) h = slice_get-take i xs j (omega arith)

-- what comes before a place of a list is in the part before it
pub Contains-take : {X : Type 0} (xs : List X) (i j : ℕ) (x : X) → j < i → slice_get xs j ≡ Some x → Contains (take i xs) x
Contains-take xs i j x before h = Contains-at (take i xs) j x (slice_get-take i xs j before ∙ h)

-- what is in the part before a place is at an earlier one
pub place_before-Contains : {X : Type 0} (xs : List X) (i : ℕ) (x : X) → Contains (take i xs) x → (j : ℕ) × (j < i)
    × (slice_get xs j ≡ Some x)
place_before-Contains xs i x h =
    let at = place_of-Contains (take i xs) x h in
    let before : at.0 < i = omega (arith, slice_get_within (take i xs) at.0 x at.1, length-take i xs) in
    (at.0, before, sym (slice_get-take i xs at.0 before) ∙ at.1)

-- what is at an earlier place is related to what is at a later one
pub AllPairs-at : {X : Type 0} (R : X → X → Type 0) (xs : List X) (i j : ℕ) (x y : X) → AllPairs R xs → i < j → slice_get xs i ≡ Some x
    → slice_get xs j ≡ Some y → R x y
AllPairs-at R xs i j x y h before first second =
    let within = slice_get_within xs j y second in
    subst (λ z. R x z) (get_or_from_slice_get xs j y x second)
    (subst (λ z. R z (get_or xs j x)) (get_or_from_slice_get xs i x x first) (h i j x before within))

-- a relation of what is at each two places is one of all pairs
pub AllPairs-from_at : {X : Type 0} (R : X → X → Type 0) (xs : List X)
    → ((i j : ℕ) (x y : X) → i < j → slice_get xs i ≡ Some x → slice_get xs j ≡ Some y → R x y) → AllPairs R xs
AllPairs-from_at R xs h i j d before within =
    h i j (get_or xs i d) (get_or xs j d) before (slice_get-get_or xs i d (omega arith)) (slice_get-get_or xs j d within)

-- what holds of all elements holds of what is at a place
pub All-at : {X : Type 0} (P : X → Type 0) (xs : List X) (i : ℕ) (x : X) → All P xs → slice_get xs i ≡ Some x → P x
All-at P xs i x h here = subst P (get_or_from_slice_get xs i x x here) (h i x (slice_get_within xs i x here))

-- the element after a front is at the front's length
pub slice_get-middle : {X : Type 0} (xs : List X) (y : X) (ys : List X) → slice_get (xs ++ y ∷ ys) (length xs) ≡ Some y
slice_get-middle [] y ys = refl
slice_get-middle (x ∷ xs) y ys = slice_get-middle xs y ys

-- a place of a list with one more element is a place of the list or the new one
pub place-push : {X : Type 0} (xs : List X) (y : X) (i : ℕ) (x : X) → slice_get (xs ++ y ∷ []) i ≡ Some x
    → (slice_get xs i ≡ Some x) ⊎ ((length xs ≡ i) × (x ≡ y))
place-push [] y zero x h = inr (refl, same_Some x y (sym h))
place-push [] y (suc i) x h = absurd (none-some x h)
place-push (z ∷ xs) y zero x h = inl h
place-push (z ∷ xs) y (suc i) x h = ⊎_elim (λ old. inl old) (λ new. inr (ap suc new.0, new.1)) (place-push xs y i x h)

-- a list parts at each of its elements
pub Contains-split : {X : Type 0} (xs : List X) (x : X) → Contains xs x → (front : List X) × (back : List X) × (xs ≡ front ++ x ∷ back)
Contains-split [] x h = absurd (Contains-nil x h)
Contains-split (y ∷ xs) x h =
    ⊎_elim (λ is. ([], xs, ap (λ z. z ∷ xs) is))
    (λ later. let (front, back, is) = Contains-split xs x later in (y ∷ front, back, ap (λ zs. y ∷ zs) is)) (Contains-cases y xs x h)

-- what is in a list is the element between its front and its back, or in one of these
pub Contains-around : {X : Type 0} (front : List X) (x : X) (back : List X) (z : X) → Contains (front ++ x ∷ back) z → (x ≡ z)
    ⊎ Contains (front ++ back) z
Contains-around front x back z h = ⊎_elim
    (λ in_front. inr (Contains-append_left front back z in_front))
    (λ in_rest. ⊎_elim (λ is. inl is) (λ in_back. inr (Contains-append_right front back z in_back)) (Contains-cases x back z in_rest))
    (Contains-append_cases front (x ∷ back) z h)

-- distinct elements that are all in another list are not more than it has
pub length-distinct : {X : Type 0} (xs ys : List X) → AllPairs (λ a b. a ≢ b) xs → All (Contains ys) xs → length xs ≤ length ys
length-distinct [] ys distinct within = omega arith
length-distinct {X} (x ∷ xs) ys distinct within =
    let (front, back, is) = Contains-split ys x (All-head (Contains ys) x xs within) in
    let others : All (Contains (front ++ back)) xs = All-from_contains (Contains (front ++ back)) xs (λ z h. ⊎_elim
    (λ same. absurd (All-contains (λ b. x ≢ b) xs z (AllPairs-head (λ a b. a ≢ b) x xs distinct) h same))
    (λ around. around)
    (Contains-around front x back z (subst (λ zs. Contains zs z) is (All-contains (Contains ys) xs z (All-tail (Contains ys) x
    xs within) h)))) in
    let fewer = length-distinct xs (front ++ back) (AllPairs-tail (λ a b. a ≢ b) x xs distinct) others in
    omega (arith, fewer, ap length is, length-append front (x ∷ back), length-append front back)

-- a filter keeps what passes
pub Contains-filter : {X : Type 0} (p : X → Bool) (xs : List X) (x : X) → Contains xs x → p x ≡ true → Contains (filter p xs) x
Contains-filter p [] x h passes = h
Contains-filter p (y ∷ xs) x h passes = ⊎_elim
    (λ is. let e : p y ≡ true = ap p is ∙ passes in rw e (subst (λ z. Contains (z ∷ filter p xs) x) (sym is)
    (Contains-first x (filter p xs))))
    (λ later. cond_both (p y) (y ∷ filter p xs) (filter p xs) (λ zs. Contains zs x)
    (λ e. Contains-later y (filter p xs) x (Contains-filter p xs x later passes)) (λ e. Contains-filter p xs x later passes))
    (Contains-cases y xs x h)

-- what a filter keeps was in the list, and passes
pub Contains-from_filter : {X : Type 0} (p : X → Bool) (xs : List X) (x : X) → Contains (filter p xs) x → Contains xs x × (p x ≡ true)
Contains-from_filter p [] x h = absurd (Contains-nil x h)
Contains-from_filter p (y ∷ xs) x h = kept (Contains-from_filter p xs x) h
  where
    kept : (Contains (filter p xs) x → Contains xs x × (p x ≡ true)) → Contains (filter p (y ∷ xs)) x → Contains (y ∷ xs) x × (p x ≡ true)
    kept rest = cond_both (p y) (y ∷ filter p xs) (filter p xs) (λ zs. Contains zs x → Contains (y ∷ xs) x × (p x ≡ true))
        (λ e here. ⊎_elim (λ is. (subst (Contains (y ∷ xs)) is (Contains-first y xs), ap p (sym is) ∙ e))
        (λ later. (Contains-later y xs x (rest later).0, (rest later).1)) (Contains-cases y (filter p xs) x here))
        (λ e here. (Contains-later y xs x (rest here).0, (rest here).1))

-- the numbers below n hold each of them
pub Contains-range : (n k : ℕ) → k < n → Contains (range_with_len 0 n) k
Contains-range n k h = (k, omega (arith, h, length-range_with_len 0 n), get_or-range_with_len 0 n k k h ∙ zero-add k)

-- distinct numbers below n are at most n
pub length-distinct_below : (xs : List ℕ) (n : ℕ) → AllPairs (λ a b. a ≢ b) xs → All (λ x. x < n) xs → length xs ≤ n
length-distinct_below xs n distinct below =
    omega (
      arith,
      length-range_with_len 0 n,
      length-distinct xs (range_with_len 0 n) distinct
          (All-weaker (λ x. x < n) (Contains (range_with_len 0 n)) (Contains-range n) xs below),
    )
