-- PUT in a row of any kind.
use Rattle.art_schedules.proofs.Common.{◌≡◌, ℕ, ◌+◌, ◌^◌, ◌<◌, ◌≤◌, List, length, refl, ap, sym, subst, ◌∙◌, true, arith, nat_le, Option}
use Rattle.art_rows.specs.Rows.{Row}
use Rattle.art_schedules.proofs.Common.{none-some, Call, Insert, Kind, Four, Sixteen, FortyEight, Full, Leaf, row_words, capacity}
use Rattle.art_schedules.proofs.Common.{child_at, keys4_of, keys16_of, keys16_word, count_of, place_of, Setting, is_insert, new_leaf, put_in}
use Rattle.art_schedules.proofs.Common.{slot_of, HasForm, Comes, keys_in_row, count_in_row, IsStored, HasPut}
use Rattle.std.specs.Prelude.{if◌then◌else◌, slice_index, Some, None, option_map}
use Rattle.art_schedules.proofs.words.ByteLemmas.{keys4_back, keys16_back}
use Rattle.art_schedules.proofs.writes.PutListedLemmas.{after_put4, put4, put4-comes, after_put16, put16, put16-comes}
use Rattle.art_schedules.proofs.writes.PutIndexedLemmas.{after_put48, put48, put48-comes}

-- a row that is read whole
pub keys_of-four : (words keys : List ℕ) (base x : ℕ) → (form : HasForm words base Four) → form.0 ≡ keys
    → keys_in_row words base Four x ≡ keys
keys_of-four words keys base x form e = ap keys4_of form.1 ∙ keys4_back form.0 form.2 form.4 ∙ e

pub keys_of-sixteen : (words keys : List ℕ) (base x : ℕ) → (form : HasForm words base Sixteen) → form.0 ≡ keys
    → keys_in_row words base Sixteen x ≡ keys
keys_of-sixteen words keys base x form e =
    ap (λ n. keys16_of n (slice_index words (base + 2)) (slice_index words (base + 3))) form.3
    ∙ ap (λ a. keys16_of (length form.0) a (slice_index words (base + 3))) form.1
    ∙ ap (λ b. keys16_of (length form.0) (keys16_word form.0) b) form.2
    ∙ keys16_back form.0 form.4 form.6 ∙ e

pub no_place : (f : ℕ → ℕ) (o : Option ℕ) → option_map f o ≡ None → o ≡ None
no_place f None h = refl
no_place f (Some i) h = absurd (none-some (f i) (sym h))

pub count_of-within : (n : ℕ) → n ≤ 48 → count_of 48 n ≡ n
count_of-within n h = ap (λ b. if b then n else 0) (within n h)
  where
    within : (n : ℕ) → n ≤ 48 → nat_le n 48 ≡ true
    within n h = grind (arith, h)

pub count48 : (call : Call) (words : List ℕ) (base x : ℕ) → is_insert call ≡ true → slice_index words (base + 34) ≤ 48
    → count_in_row call words base FortyEight x ≡ slice_index words (base + 34)
count48 call words base x e h =
    ap (λ b. if b then count_of 48 (slice_index words (base + 34)) else 0) e ∙ count_of-within (slice_index words (base + 34)) h

-- what an insert's PUT leaves
abbrev pub Puts : Kind → Setting → ℕ → ℕ → ℕ → List ℕ → List ℕ → ℕ → List ℕ → ℕ → Type 0
Puts kind c base level kept path words x keys count =
    (later : List ℕ)
    × Comes (put_in kind c (record { base = base; kind = kind; level = level; path = path; kept = kept }) x keys count) words tt later
    × HasPut c.shape words later base kind x (new_leaf c.call)

pub puts : (kind : Kind) (c : Setting) (base level kept : ℕ) (path words : List ℕ) (x : ℕ) → is_insert c.call ≡ true
    → IsStored c.shape (new_leaf c.call)
    → base + row_words kind ≤ length words → HasForm words base kind → x < 256 → slot_of words base kind x ≡ None
    → count_in_row c.call words base kind x < capacity kind
    → Puts kind c base level kept path words x (keys_in_row words base kind x) (count_in_row c.call words base kind x)
puts Four c base level kept path words x insert stored fits form small absent few =
    let keys : List ℕ = form.0 in
    let read = keys_of-four words keys base x form refl in
    let none : place_of x keys ≡ None =
    subst (λ ks. place_of x ks ≡ None) read (no_place (child_at Four base) (place_of x (keys_in_row words base Four x)) absent) in
    let less : length keys < 4 = subst (λ ks. length ks < 4) read few in
    subst (λ ks. Puts Four c base level kept path words x ks (length ks)) (sym read) (
      after_put4 c.shape base words keys x (new_leaf c.call) stored fits form.1 less form.3 form.4 none small,
      put4-comes c base level kept path words keys x,
      put4 c.shape base words keys x (new_leaf c.call) stored fits form.1 less form.3 form.4 none small,
    )
puts Sixteen c base level kept path words x insert stored fits form small absent few =
    let keys : List ℕ = form.0 in
    let read = keys_of-sixteen words keys base x form refl in
    let none : place_of x keys ≡ None =
    subst (λ ks. place_of x ks ≡ None) read (no_place (child_at Sixteen base) (place_of x (keys_in_row words base Sixteen x)) absent) in
    let less : length keys < 16 = subst (λ ks. length ks < 16) read few in
    subst (λ ks. Puts Sixteen c base level kept path words x ks (length ks)) (sym read) (
      after_put16 c.shape base words keys x (new_leaf c.call) stored fits form.1 form.2 form.3 less form.5 form.6 none small,
      put16-comes c base level kept path words keys x,
      put16 c.shape base words keys x (new_leaf c.call) stored fits form.1 form.2 form.3 less form.5 form.6 none small,
    )
puts FortyEight c base level kept path words x insert stored fits form small absent few =
    let n : ℕ = slice_index words (base + 34) in
    let read = count48 c.call words base x insert form.0 in
    let less : n < 48 = subst (λ k. k < 48) read few in
    subst (λ k. Puts FortyEight c base level kept path words x (keys_in_row words base FortyEight x) k) (sym read) (
      after_put48 c.shape base words n x (new_leaf c.call) stored fits refl less form small absent,
      put48-comes c base level kept path words (keys_in_row words base FortyEight x) x n,
      put48 c.shape base words n x (new_leaf c.call) stored fits refl less form small absent,
    )
puts Full c base level kept path words x insert stored fits form small absent few = absurd (none-some (base + 2 + x) (sym absent))

pub leaf_put : (c : Setting) (n : Row) (words : List ℕ) (x key value : ℕ) → c.call ≡ Insert key value → value < 2 ^ 30
    → n.base + row_words n.kind ≤ length words → HasForm words n.base n.kind → x < 256 → slot_of words n.base n.kind x ≡ None
    → count_in_row c.call words n.base n.kind x < capacity n.kind
    → (later : List ℕ) × Comes (put_in n.kind c n x (keys_in_row words n.base n.kind x) (count_in_row c.call words n.base n.kind x)) words
    tt later
    × HasPut c.shape words later n.base n.kind x (Leaf key value)
leaf_put c n words x key value call small fits form byte absent few =
    let put = puts n.kind c n.base n.level n.kept n.path words x (ap is_insert call)
    (subst (λ k. IsStored c.shape (new_leaf k)) (sym call) small) fits form byte absent few in
    (put.0, put.1, subst (λ k. HasPut c.shape words put.0 n.base n.kind x (new_leaf k)) call put.2)
