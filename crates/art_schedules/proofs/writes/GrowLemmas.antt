-- GROW's copy, from a row of any kind.
use Rattle.art_schedules.proofs.Common.{◌≡◌, ℕ, ◌+◌, ◌^◌, ◌<◌, ◌≤◌, List, length, refl, sym, subst, arith, none-some, Insert, Kind, Four, Sixteen}
use Rattle.art_rows.specs.Rows.{Row}
use Rattle.art_schedules.proofs.Common.{FortyEight, Full, Leaf, row_words, capacity, child_at, place_of, Setting, new_leaf, fill, next_kind}
use Rattle.art_schedules.proofs.Common.{slot_of, HasForm, Comes, keys_in_row, count_in_row, IsStored, IsApart, HasGrown}
use Rattle.std.specs.Prelude.{slice_index, None}
use Rattle.art_schedules.proofs.writes.PutLemmas.{keys_of-four, keys_of-sixteen, no_place}
use Rattle.art_schedules.proofs.writes.GrowFourLemmas.{after_grow4, grow4, grow4-comes}
use Rattle.art_schedules.proofs.writes.GrowIndexedLemmas.{after_grow16, grow16, grow16-comes}
use Rattle.art_schedules.proofs.writes.SpreadLemmas.{grow48}

-- what an insert's copy leaves
abbrev pub Fills : Kind → Setting → ℕ → ℕ → ℕ → List ℕ → ℕ → List ℕ → ℕ → List ℕ → ℕ → Type 0
Fills kind c old level kept path base words x keys count =
    (later : List ℕ)
    × Comes (fill kind c (record { base = old; kind = kind; level = level; path = path; kept = kept }) base x keys count) words tt later
    × HasGrown c.shape words later old kind base (next_kind kind) x (new_leaf c.call)

pub fills : (kind : Kind) (c : Setting) (old level kept : ℕ) (path : List ℕ) (base : ℕ) (words : List ℕ) (x : ℕ)
    → IsStored c.shape (new_leaf c.call)
    → base + row_words (next_kind kind) ≤ length words → IsApart old kind base (next_kind kind)
    → ((word : ℕ) → base + 2 ≤ word → word < base + row_words (next_kind kind) → slice_index words word ≡ 0)
    → HasForm words old kind → x < 256 → slot_of words old kind x ≡ None → count_in_row c.call words old kind x ≡ capacity kind
    → Fills kind c old level kept path base words x (keys_in_row words old kind x) (count_in_row c.call words old kind x)
fills Four c old level kept path base words x stored fits apart zeros form small absent full =
    let keys : List ℕ = form.0 in
    let read = keys_of-four words keys old x form refl in
    let none : place_of x keys ≡ None =
    subst (λ ks. place_of x ks ≡ None) read (no_place (child_at Four old) (place_of x (keys_in_row words old Four x)) absent) in
    subst (λ ks. Fills Four c old level kept path base words x ks (length ks)) (sym read) (
      after_grow4 c.shape old base words keys x (new_leaf c.call) stored fits apart form.1 form.2 form.3 form.4 none small,
      grow4-comes c old level kept base path words keys x,
      grow4 c.shape old base words keys x (new_leaf c.call) stored fits apart form.1 form.2 form.3 form.4 none small,
    )
fills Sixteen c old level kept path base words x stored fits apart zeros form small absent full =
    let keys : List ℕ = form.0 in
    let read = keys_of-sixteen words keys old x form refl in
    let none : place_of x keys ≡ None =
    subst (λ ks. place_of x ks ≡ None) read (no_place (child_at Sixteen old) (place_of x (keys_in_row words old Sixteen x)) absent) in
    let long : length keys ≡ 16 = subst (λ ks. length ks ≡ 16) read full in
    subst (λ ks. Fills Sixteen c old level kept path base words x ks (length ks)) (sym read) (
      after_grow16 c.shape old base words keys x (new_leaf c.call) stored fits apart read long form.5 form.6 none small,
      grow16-comes c old level kept base path words keys x,
      grow16 c.shape old base words keys x (new_leaf c.call) stored fits apart read long form.5 form.6 none small,
    )
fills FortyEight c old level kept path base words x stored fits apart zeros form small absent full =
    grow48 c (record { base = old; kind = FortyEight; level = level; path = path; kept = kept }) base words x
    (keys_in_row words old FortyEight x)
    (count_in_row c.call words old FortyEight x) fits apart (λ z l. zeros (base + 2 + z) (omega arith) (omega (arith, l))) small stored
fills Full c old level kept path base words x stored fits apart zeros form small absent full = absurd (none-some (old + 2 + x) (sym absent))

pub row_filled : (c : Setting) (n : Row) (base : ℕ) (words : List ℕ) (x key value : ℕ) → c.call ≡ Insert key value → value < 2 ^ 30
    → base + row_words (next_kind n.kind) ≤ length words → IsApart n.base n.kind base (next_kind n.kind)
    → ((word : ℕ) → base + 2 ≤ word → word < base + row_words (next_kind n.kind) → slice_index words word ≡ 0)
    → HasForm words n.base n.kind → x < 256 → slot_of words n.base n.kind x ≡ None
    → count_in_row c.call words n.base n.kind x ≡ capacity n.kind
    → (later : List ℕ) × Comes (fill n.kind c n base x (keys_in_row words n.base n.kind x) (count_in_row c.call words n.base n.kind x))
    words tt later
    × HasGrown c.shape words later n.base n.kind base (next_kind n.kind) x (Leaf key value)
row_filled c n base words x key value call small fits apart zeros form byte absent full =
    let filled = fills n.kind c n.base n.level n.kept n.path base words x
    (subst (λ k. IsStored c.shape (new_leaf k)) (sym call) small) fits apart zeros form byte absent full in
    (filled.0, filled.1, subst (λ k. HasGrown c.shape words filled.0 n.base n.kind base (next_kind n.kind) x (new_leaf k)) call filled.2)
