-- GROW from kind 16 to kind 48.
use Rattle.art_schedules.proofs.Common.{◌≡◌, ℕ, zero, suc, ◌+◌, ◌*◌, ◌/◌, ◌%◌, ◌<◌, ◌≤◌, List, [], ◌∷◌, length, refl, ap, subst, ◌∙◌, ⊎_elim}
use Rattle.std.proofs.Common.{map}
use Rattle.art_schedules.proofs.Common.{inl, inr, arith, slice_set, All, AllPairs, Option, cases_lt, length-map, All-nil}
use Rattle.art_schedules.proofs.Common.{All-cons, All-get_or, AllPairs-head, AllPairs-tail, place_of, entries_of, entries_word, index_at}
use Rattle.art_schedules.proofs.Common.{place-within, each, numbers, new_entry, store_index, Comes, AreSmall}
use Rattle.std.specs.Prelude.{◌⊎◌, slice_index, Some, None, if◌then◌else◌, ◌≢◌, option_map}
use Rattle.std.proofs.lemmas.Bool.{eq-eqb, ne_eqb}
use Rattle.art_schedules.proofs.alone.AloneLemmas.{each_none-comes, each-comes, store-comes}
use Rattle.art_schedules.proofs.words.WordLemmas.{entries_back, entries_below}
use Rattle.art_schedules.proofs.writes.StoreLemmas.{small-stored, stored-at, stored-other, stored-long}

-- entries by place

pub entry-some : (keys : List ℕ) (y i : ℕ) → place_of y keys ≡ Some i → new_entry keys y ≡ i + 1
entry-some keys y i e = rw e

pub entry-absent : (keys : List ℕ) (y : ℕ) → place_of y keys ≡ None → new_entry keys y ≡ 0
entry-absent keys y e = rw e

-- the numbers from a first one on, by place
pub entry-at : (f : ℕ → ℕ) (first n r : ℕ) → r < n → slice_index (map f (numbers first n)) r ≡ f (first + r)
entry-at f first zero r h = absurd (omega (arith, h))
entry-at f first (suc n) zero h = ap f same
  where
    same : first ≡ first + 0
    same = omega arith
entry-at f first (suc n) (suc r) h = entry-at f (first + 1) n r (omega (arith, h)) ∙ ap f same
  where
    same : first + 1 + r ≡ first + suc r
    same = omega arith

pub length-numbers : (first n : ℕ) → length (numbers first n) ≡ n
length-numbers first zero = refl
length-numbers first (suc n) = ap suc (length-numbers (first + 1) n)

-- the index words

abbrev pub index_word : List ℕ → ℕ → ℕ
index_word keys j = entries_word (map (new_entry keys) (numbers (8 * j) 8))

-- the words with the index words j, j + 1, .., n of them, of a row whose keys have the children 0, 1, ..
abbrev pub with_index : ℕ → List ℕ → ℕ → ℕ → List ℕ → List ℕ
with_index base keys j zero words = words
with_index base keys j (suc n) words = with_index base keys (j + 1) n (slice_set words (base + 2 + j) (index_word keys j))

index_place : (base j : ℕ) → index_at base (8 * j) ≡ base + 2 + j
index_place base j = omega arith

store_index-comes : (base : ℕ) (keys : List ℕ) (j : ℕ) (words : List ℕ)
    → Comes (store_index base keys j) words tt (slice_set words (base + 2 + j) (index_word keys j))
unfolding store_index
store_index-comes base keys j words =
    subst (λ k. Comes (store_index base keys j) words tt (slice_set words k (index_word keys j))) (index_place base j)
    (store-comes (index_at base (8 * j)) (index_word keys j) words)

pub index-comes : (base : ℕ) (keys : List ℕ) (j n : ℕ) (words : List ℕ)
    → Comes (each (numbers j n) (store_index base keys)) words tt (with_index base keys j n words)
index-comes base keys j zero words = each_none-comes (store_index base keys) words
index-comes base keys j (suc n) words =
    each-comes j (numbers (j + 1) n) (store_index base keys) (store_index-comes base keys j words)
    (index-comes base keys (j + 1) n (slice_set words (base + 2 + j) (index_word keys j)))

pub index-long : (base : ℕ) (keys : List ℕ) (j n : ℕ) (words : List ℕ) → length (with_index base keys j n words) ≡ length words
index-long base keys j zero words = refl
index-long base keys j (suc n) words =
    index-long base keys (j + 1) n (slice_set words (base + 2 + j) (index_word keys j))
    ∙ stored-long words (base + 2 + j) (index_word keys j)

pub index-other : (base : ℕ) (keys : List ℕ) (j n : ℕ) (words : List ℕ) (word : ℕ) → (word < base + 2 + j) ⊎ (base + 2 + (j + n) ≤ word)
    → slice_index (with_index base keys j n words) word ≡ slice_index words word
index-other base keys j zero words word h = refl
index-other base keys j (suc n) words word h =
    index-other base keys (j + 1) n (slice_set words (base + 2 + j) (index_word keys j)) word
    (⊎_elim (λ l. inl (omega (arith, l))) (λ l. inr (omega (arith, l))) h)
    ∙ stored-other words (base + 2 + j) word (index_word keys j) (⊎_elim (λ l e. omega (arith, l, e)) (λ l e. omega (arith, l, e)) h)

pub index-stored : (base : ℕ) (keys : List ℕ) (j n : ℕ) (words : List ℕ) → base + 2 + (j + n) ≤ length words → (k : ℕ) → j ≤ k → k < j + n
    → slice_index (with_index base keys j n words) (base + 2 + k) ≡ index_word keys k
index-stored base keys j zero words fits k low high = absurd (omega (arith, low, high))
index-stored base keys j (suc n) words fits k low high =
    let next : List ℕ = slice_set words (base + 2 + j) (index_word keys j) in
    let more = index-stored base keys (j + 1) n next (omega (arith, fits, stored-long words (base + 2 + j) (index_word keys j))) k in
    ⊎_elim (λ l. more (omega (arith, l)) (omega (arith, high))) (λ l. first (omega (arith, l, low))) (cases_lt j k)
  where
    first : j ≡ k → slice_index (with_index base keys j (suc n) words) (base + 2 + k) ≡ index_word keys k
    first e =
        subst (λ k. slice_index (with_index base keys j (suc n) words) (base + 2 + k) ≡ index_word keys k) e
        (index-other base keys (j + 1) n (slice_set words (base + 2 + j) (index_word keys j)) (base + 2 + j) (inl (omega arith))
        ∙ stored-at words (base + 2 + j) (index_word keys j) (omega (arith, fits)))

-- the entries of an index word
pub index-most : (keys : List ℕ) (zs : List ℕ) → length keys ≤ 48 → All (λ e. e ≤ 48) (map (new_entry keys) zs)
index-most keys [] few = All-nil (λ e. e ≤ 48)
index-most keys (z ∷ zs) few =
    All-cons (λ e. e ≤ 48) (new_entry keys z) (map (new_entry keys) zs) (most z (place_of z keys) refl) (index-most keys zs few)
  where
    most : (z : ℕ) (o : Option ℕ) → place_of z keys ≡ o → new_entry keys z ≤ 48
    most z None e = omega (arith, entry-absent keys z e)
    most z (Some i) e = omega (arith, entry-some keys z i e, (place-within z keys i e).0, few)

pub index-eight : (keys : List ℕ) (j : ℕ) → length (map (new_entry keys) (numbers (8 * j) 8)) ≡ 8
index-eight keys j = length-map (numbers (8 * j) 8) (new_entry keys) ∙ length-numbers (8 * j) 8

-- the entry of a byte in such an index word
pub index-read : (keys : List ℕ) (y : ℕ) → length keys ≤ 48 → slice_index (entries_of (index_word keys (y / 8))) (y % 8) ≡ new_entry keys y
index-read keys y few =
    ap (λ es. slice_index es (y % 8))
    (entries_back (map (new_entry keys) (numbers (8 * (y / 8)) 8)) (index-eight keys (y / 8))
    (index-most keys (numbers (8 * (y / 8)) 8) few))
    ∙ entry-at (new_entry keys) (8 * (y / 8)) 8 (y % 8) (omega arith)
    ∙ ap (new_entry keys) whole
  where
    whole : 8 * (y / 8) + y % 8 ≡ y
    whole = omega arith

pub index-small : (base : ℕ) (keys : List ℕ) (j n : ℕ) (words : List ℕ) → length keys ≤ 48 → AreSmall words
    → AreSmall (with_index base keys j n words)
index-small base keys j zero words few h = h
index-small base keys j (suc n) words few h =
    index-small base keys (j + 1) n (slice_set words (base + 2 + j) (index_word keys j)) few
    (small-stored words (base + 2 + j) (index_word keys j) h
    (entries_below (map (new_entry keys) (numbers (8 * j) 8)) (index-eight keys j) (index-most keys (numbers (8 * j) 8) few)))

-- places in distinct keys

pub place-of_at : (keys : List ℕ) → AllPairs (λ a b. a ≢ b) keys → (i : ℕ) → i < length keys → place_of (slice_index keys i) keys ≡ Some i
place-of_at [] distinct i h = absurd (omega (arith, h))
place-of_at (y ∷ ys) distinct zero h = ap (λ b. if b then Some 0 else option_map (λ i. i + 1) (place_of y ys)) (eq-eqb y y refl)
place-of_at (y ∷ ys) distinct (suc i) h =
    let later : y ≢ slice_index ys i = All-get_or (λ b. y ≢ b) ys i 0 (omega (arith, h)) (AllPairs-head (λ a b. a ≢ b) y ys distinct) in
    ap (λ b. if b then Some 0 else option_map (λ i. i + 1) (place_of (slice_index ys i) ys)) (ne_eqb y (slice_index ys i) later)
    ∙ ap (option_map (λ i. i + 1)) (place-of_at ys (AllPairs-tail (λ a b. a ≢ b) y ys distinct) i (omega (arith, h)))
    ∙ ap Some (one_more i)
  where
    one_more : (i : ℕ) → i + 1 ≡ suc i
    one_more i = omega arith
