-- Rising keys with one more.
use Rattle.art_schedules.proofs.Common.{◌≡◌, ℕ, suc, ◌+◌, ◌<◌, ◌≤◌, List, [], ◌∷◌, ◌++◌, length, take, drop, refl, ap, sym, subst, ◌∙◌, Bool, true}
use Rattle.art_schedules.proofs.Common.{false, arith, nat_lt, All, AllPairs, Option, IsStrictlyIncreasing, none-some, All-head}
use Rattle.art_schedules.proofs.Common.{All-tail, All-cons, All-append, All-take, All-drop, All-weaker, AllPairs-cons, AllPairs-from_increasing}
use Rattle.art_schedules.proofs.Common.{lt-ltb, ltb-true, ltb-false, eqb-false, AllPairs-head, AllPairs-tail, place_of, new_place, with_key}
use Rattle.art_schedules.proofs.Common.{place_moved}
use Rattle.std.specs.Prelude.{◌==◌, Some, None, if◌then◌else◌, ◌≢◌, option_map}
use Rattle.std.proofs.lemmas.Bool.{le-ltb, eq-eqb, ne_eqb}
use Rattle.art_rows.proofs.WriterLemmas.{length-put_in}

-- the places that move

pub moved-before : (p i : ℕ) → i < p → place_moved p i ≡ i
moved-before p i h = ap (λ b. if b then i else i + 1) (lt-ltb i p h)

pub moved-behind : (p i : ℕ) → p ≤ i → place_moved p i ≡ i + 1
moved-behind p i h = ap (λ b. if b then i else i + 1) (le-ltb i p h)

moved-suc : (p i : ℕ) → place_moved p i + 1 ≡ place_moved (suc p) (i + 1)
moved-suc p i = go (nat_lt i p) refl
  where
    go : (b : Bool) → nat_lt i p ≡ b → place_moved p i + 1 ≡ place_moved (suc p) (i + 1)
    go true e = let l = ltb-true i p e in ap (λ k. k + 1) (moved-before p i l) ∙ sym (moved-before (suc p) (i + 1) (omega (arith, l)))
    go false e = let l = ltb-false i p e in ap (λ k. k + 1) (moved-behind p i l) ∙ sym (moved-behind (suc p) (i + 1) (omega (arith, l)))

-- A place is one of the list's.

place_head : (x y : ℕ) (o : Option ℕ) → (if y == x then Some 0 else option_map (λ i. i + 1) o) ≡ None → (y ≢ x) × (o ≡ None)
place_head x y o h = go (y == x) refl o h
  where
    go : (b : Bool) → (y == x) ≡ b → (o : Option ℕ) → (if b then Some 0 else option_map (λ i. i + 1) o) ≡ None → (y ≢ x) × (o ≡ None)
    go true e o h = absurd (none-some 0 (sym h))
    go false e None h = (eqb-false y x e, refl)
    go false e (Some i) h = absurd (none-some (i + 1) (sym h))

-- The keys with one more.

pub All-with_key : (P : ℕ → Type 0) (x : ℕ) (keys : List ℕ) → P x → All P keys → All P (with_key x keys)
All-with_key P x keys h all =
    All-append P (take (new_place x keys) keys) (x ∷ drop (new_place x keys) keys) (All-take P (new_place x keys) keys all)
    (All-cons P x (drop (new_place x keys) keys) h (All-drop P (new_place x keys) keys all))

pub length-with_key : (x : ℕ) (keys : List ℕ) → length (with_key x keys) ≡ length keys + 1
length-with_key x keys = length-put_in x (new_place x keys) keys

none_less : (x : ℕ) (ys : List ℕ) → All (λ y. x ≤ y) ys → new_place x ys ≡ 0
none_less x [] h = refl
none_less x (y ∷ ys) h =
    ap (λ b. if b then suc (new_place x ys) else new_place x ys) (le-ltb y x (All-head (λ y. x ≤ y) y ys h))
    ∙ none_less x ys (All-tail (λ y. x ≤ y) y ys h)

abbrev Rising : List ℕ → Type 0
Rising xs = AllPairs (λ a b. a < b) xs

-- the new key among these: after the first one, or before it
later_key : (x y : ℕ) (ys : List ℕ) → y < x → (new_place x (y ∷ ys) ≡ suc (new_place x ys)) × (with_key x (y ∷ ys) ≡ y ∷ with_key x ys)
later_key x y ys l = (place, ap (λ p. take p (y ∷ ys) ++ x ∷ drop p (y ∷ ys)) place)
  where
    place : new_place x (y ∷ ys) ≡ suc (new_place x ys)
    place = ap (λ b. if b then suc (new_place x ys) else new_place x ys) (lt-ltb y x l)

first_key : (x y : ℕ) (ys : List ℕ) → Rising (y ∷ ys) → x ≤ y → (new_place x (y ∷ ys) ≡ 0) × (with_key x (y ∷ ys) ≡ x ∷ y ∷ ys)
first_key x y ys up l = (place, ap (λ p. take p (y ∷ ys) ++ x ∷ drop p (y ∷ ys)) place)
  where
    place : new_place x (y ∷ ys) ≡ 0
    place = none_less x (y ∷ ys) (All-cons (λ z. x ≤ z) y ys l
        (All-weaker (λ z. y < z) (λ z. x ≤ z) (λ z h. omega (arith, h, l)) ys (AllPairs-head (λ a b. a < b) y ys up)))

pub data Place (x : ℕ) (y : ℕ) (ys : List ℕ) : Type 0 where
  behind : y < x → new_place x (y ∷ ys) ≡ suc (new_place x ys) → with_key x (y ∷ ys) ≡ y ∷ with_key x ys → Place x y ys
  before : x ≤ y → new_place x (y ∷ ys) ≡ 0 → with_key x (y ∷ ys) ≡ x ∷ y ∷ ys → Place x y ys

placed : (x y : ℕ) (ys : List ℕ) → Rising (y ∷ ys) → Place x y ys
placed x y ys up = go (nat_lt y x) refl
  where
    go : (b : Bool) → nat_lt y x ≡ b → Place x y ys
    go true e = let l = ltb-true y x e in let k = later_key x y ys l in behind l k.0 k.1
    go false e = let l = ltb-false y x e in let k = first_key x y ys up l in before l k.0 k.1

rising_with : (x : ℕ) (keys : List ℕ) → Rising keys → place_of x keys ≡ None → Rising (with_key x keys)
rising_with x [] up absent = AllPairs-cons (λ a b. a < b) x [] (λ k d l. absurd (omega (arith, l))) up
rising_with x (y ∷ ys) up absent =
    go (rising_with x ys (AllPairs-tail (λ a b. a < b) y ys up) (place_head x y (place_of x ys) absent).1) (placed x y ys up)
  where
    parts : (y ≢ x) × (place_of x ys ≡ None)
    parts = place_head x y (place_of x ys) absent

    go : Rising (with_key x ys) → Place x y ys → Rising (with_key x (y ∷ ys))
    go more (behind l p e) =
        subst Rising (sym e) (AllPairs-cons (λ a b. a < b) y (with_key x ys)
        (All-with_key (λ z. y < z) x ys l (AllPairs-head (λ a b. a < b) y ys up))
        more)
    go more (before l p e) =
        let low : x < y = omega (arith, l, parts.0) in
        subst Rising (sym e) (AllPairs-cons (λ a b. a < b) x (y ∷ ys) (All-cons (λ z. x < z) y ys low
        (All-weaker (λ z. y < z) (λ z. x < z) (λ z h. omega (arith, h, low)) ys (AllPairs-head (λ a b. a < b) y ys up))) up)

pub increasing-with_key : (x : ℕ) (keys : List ℕ) → IsStrictlyIncreasing keys → place_of x keys ≡ None
    → IsStrictlyIncreasing (with_key x keys)
increasing-with_key x keys up absent k l =
    rising_with x keys (AllPairs-from_increasing keys up) absent k (k + 1) 0 (omega arith) l

place_new : (x : ℕ) (keys : List ℕ) → Rising keys → place_of x keys ≡ None → place_of x (with_key x keys) ≡ Some (new_place x keys)
place_new x [] up absent = ap (λ b. if b then Some 0 else None) (eq-eqb x x refl)
place_new x (y ∷ ys) up absent =
    go (place_new x ys (AllPairs-tail (λ a b. a < b) y ys up) (place_head x y (place_of x ys) absent).1) (placed x y ys up)
  where
    parts : (y ≢ x) × (place_of x ys ≡ None)
    parts = place_head x y (place_of x ys) absent

    go : place_of x (with_key x ys) ≡ Some (new_place x ys) → Place x y ys → place_of x (with_key x (y ∷ ys)) ≡ Some (new_place x (y ∷ ys))
    go more (behind l p e) =
        ap (place_of x) e
        ∙ ap (λ b. if b then Some 0 else option_map (λ i. i + 1) (place_of x (with_key x ys))) (ne_eqb y x parts.0)
        ∙ ap (option_map (λ i. i + 1)) more
        ∙ ap Some (suc_is (new_place x ys) ∙ sym p)
      where
        suc_is : (n : ℕ) → n + 1 ≡ suc n
        suc_is n = omega arith
    go more (before l p e) =
        ap (place_of x) e
        ∙ ap (λ b. if b then Some 0 else option_map (λ i. i + 1) (place_of x (y ∷ ys))) (eq-eqb x x refl)
        ∙ ap Some (sym p)

pub place_of-new : (x : ℕ) (keys : List ℕ) → IsStrictlyIncreasing keys → place_of x keys ≡ None
    → place_of x (with_key x keys) ≡ Some (new_place x keys)
place_of-new x keys up absent = place_new x keys (AllPairs-from_increasing keys up) absent

place_old : (x y : ℕ) (keys : List ℕ) → Rising keys → y ≢ x
    → place_of y (with_key x keys) ≡ option_map (place_moved (new_place x keys)) (place_of y keys)
place_old x y [] up other = ap (λ b. if b then Some 0 else None) (ne_eqb x y (λ e. other (sym e)))
place_old x y (z ∷ zs) up other = go (place_old x y zs (AllPairs-tail (λ a b. a < b) z zs up) other) (placed x z zs up)
  where
    shift : (p : ℕ) (o : Option ℕ)
        → option_map (λ i. i + 1) (option_map (place_moved p) o) ≡ option_map (place_moved (suc p)) (option_map (λ i. i + 1) o)
    shift p None = refl
    shift p (Some i) = ap Some (moved-suc p i)

    first : (p : ℕ) → Some 0 ≡ Some (place_moved (suc p) 0)
    first p = ap Some (sym (moved-before (suc p) 0 (omega arith)))

    split : (b : Bool) (p : ℕ) (o n : Option ℕ) → n ≡ option_map (place_moved p) o
        → (if b then Some 0 else option_map (λ i. i + 1) n) ≡ option_map (place_moved (suc p))
        (if b then Some 0 else option_map (λ i. i + 1) o)
    split true p o n h = first p
    split false p o n h = ap (option_map (λ i. i + 1)) h ∙ shift p o

    all : (o : Option ℕ) → option_map (λ i. i + 1) o ≡ option_map (place_moved 0) o
    all None = refl
    all (Some i) = ap Some (sym (moved-behind 0 i (omega arith)))

    go : place_of y (with_key x zs) ≡ option_map (place_moved (new_place x zs)) (place_of y zs) → Place x z zs
        → place_of y (with_key x (z ∷ zs)) ≡ option_map (place_moved (new_place x (z ∷ zs))) (place_of y (z ∷ zs))
    go more (behind l p e) =
        ap (place_of y) e
        ∙ split (z == y) (new_place x zs) (place_of y zs) (place_of y (with_key x zs)) more
        ∙ ap (λ k. option_map (place_moved k) (place_of y (z ∷ zs))) (sym p)
    go more (before l p e) =
        ap (place_of y) e
        ∙ ap (λ b. if b then Some 0 else option_map (λ i. i + 1) (place_of y (z ∷ zs))) (ne_eqb x y (λ h. other (sym h)))
        ∙ all (place_of y (z ∷ zs))
        ∙ ap (λ k. option_map (place_moved k) (place_of y (z ∷ zs))) (sym p)

pub place_of-old : (x y : ℕ) (keys : List ℕ) → IsStrictlyIncreasing keys → y ≢ x
    → place_of y (with_key x keys) ≡ option_map (place_moved (new_place x keys)) (place_of y keys)
place_of-old x y keys up other = place_old x y keys (AllPairs-from_increasing keys up) other
