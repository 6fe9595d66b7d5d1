-- Facts on counts, places and child words.
use Rattle.art_schedules.proofs.Common.{◌≡◌, ℕ, ◌+◌, ◌*◌, ◌-◌, ◌/◌, ◌%◌, ◌^◌, ◌<◌, ◌≤◌, [], length, refl, ap, sym, subst, ◌∙◌, Bool, true, false}
use Rattle.art_schedules.proofs.Common.{arith, ◌==◌, slice_index, Some, None, if◌then◌else◌, none-some, same_Some, Call, Get, Insert, Remove}
use Rattle.art_schedules.proofs.Common.{Scan, Replace, Kind, Four, Sixteen, FortyEight, Full, Shape, Child, Empty, ChildRow, Leaf, capacity}
use Rattle.art_schedules.proofs.Common.{kind_at, is_locked, is_obsolete, entries_of, child_of, child_word, row_child, row_word, place_of}
use Rattle.art_schedules.proofs.Common.{keys4-few, keys16-few, overwriting, new_leaf, count_in, keys_among, OfRows, Each, IsNamed, IsVersion}
use Rattle.art_schedules.proofs.Common.{child_rows}
use Rattle.art_rows.specs.Words.{count_of, leaf_word}
use Rattle.art_rows.proofs.ByteLemmas.{entries-most, place-within}
use Rattle.art_schedules.proofs.words.WordLemmas.{row_as}
use Rattle.art_control_states.specs.declared.stage.Keys.{Keys}

count48-most : (w : ℕ) → count_of 48 w ≤ 48
count48-most w = grind arith

pub count-most : (kind : Kind) (keys : Keys) → count_in kind keys ≤ capacity kind
count-most Four keys = keys4-few keys.first
count-most Sixteen keys = keys16-few keys.count keys.first keys.second
count-most FortyEight keys = count48-most keys.count
count-most Full keys = omega arith

pub full-not-less : (a b : ℕ) → (a == b) ≡ true → a < b → ⊥
full-not-less a b e l = grind arith

-- where a key is among the keys of a row
pub among-most : (kind : Kind) (keys : Keys) → length (keys_among kind keys) ≤ capacity kind
among-most Four keys = keys4-few keys.first
among-most Sixteen keys = keys16-few keys.count keys.first keys.second
among-most FortyEight keys = omega arith
among-most Full keys = omega arith

pub place-fits : (kind : Kind) (keys : Keys) (x i : ℕ) → place_of x (keys_among kind keys) ≡ Some i → i < capacity kind
place-fits kind keys x i e = omega (arith, (place-within x (keys_among kind keys) i e).0, among-most kind keys)

pub entry-fits : (w k : ℕ) → slice_index (entries_of w) k - 1 < 48
entry-fits w k = omega (arith, entries-most w k)

-- a version that WAIT keeps
pub free-version : (v : ℕ) → is_locked v ≡ false → is_obsolete v ≡ false → v % 4 ≡ 0
free-version v l o = grind (arith, l, o)

-- a version that a call keeps is one of a row that is not locked
pub version-free : (l : Bool) (v : ℕ) → IsVersion l v → (v / 2) % 2 ≡ 0
version-free true v e = grind (arith, e)
version-free false v e = omega (arith, e)

-- child words

leaf-read : (key value : ℕ) → (key * 2 ^ 32 + value * 4 + 2) % 4 ≡ 2
leaf-read key value = omega arith

module _ (s : Shape) where
  leaf-rows : (w : ℕ) → w % 4 ≡ 2 → child_rows (child_of s w) ≡ []
  leaf-rows w e = one (w % 4 == 1) refl
    where
      two : (b : Bool) → child_rows (if b then Leaf (w / 4294967296) (w % 4294967296 / 4) else Empty) ≡ []
      two true = refl
      two false = refl

      one : (b : Bool) → (w % 4 == 1) ≡ b
          → child_rows (if b then row_child (w / 4) (kind_at s (w / 4)) else (if w % 4 == 2 then Leaf (w / 4294967296)
          (w % 4294967296 / 4) else Empty)) ≡ []
      one true f = absurd (grind (arith, f, e))
      one false f = two (w % 4 == 2)

  pub row-is : (base : ℕ) (kind : Kind) → kind_at s base ≡ Some kind → child_of s (row_word base) ≡ ChildRow base kind
  row-is base kind e =
      let r = row_as base in
      ap (λ n. if n == 1 then row_child ((4 * base + 1) / 4) (kind_at s ((4 * base + 1) / 4)) else
      (if n == 2 then Leaf ((4 * base + 1) / 4294967296) ((4 * base + 1) % 4294967296 / 4) else Empty)) r.0
      ∙ (ap (λ n. row_child n (kind_at s n)) r.1 ∙ ap (row_child base) e)

  module _ (P : OfRows) where
    pub no-rows : (w : ℕ) → child_rows (child_of s w) ≡ [] → Each (IsNamed P) (child_rows (child_of s w))
    no-rows w e = subst (Each (IsNamed P)) (sym e) tt

    pub leaf-good : (key value : ℕ) → Each (IsNamed P) (child_rows (child_of s (leaf_word key value)))
    leaf-good key value = no-rows (leaf_word key value) (leaf-rows (leaf_word key value) (leaf-read key value))

    pub child-good : ((b : ℕ) (k : Kind) → P b k → kind_at s b ≡ Some k) → (child : Child) → Each (IsNamed P) (child_rows child)
        → Each (IsNamed P) (child_rows (child_of s (child_word child)))
    child-good is_row Empty h = tt
    child-good is_row (ChildRow base kind) h =
        subst (λ c. Each (IsNamed P) (child_rows c)) (sym (row-is base kind (is_row base kind h.0))) h
    child-good is_row (Leaf key value) h = leaf-good key value

    pub new-leaf-rows : (call : Call) → Each (IsNamed P) (child_rows (new_leaf call))
    new-leaf-rows (Insert k v) = tt
    new-leaf-rows (Get k) = tt
    new-leaf-rows (Remove k) = tt
    new-leaf-rows (Scan a b) = tt
    new-leaf-rows (Replace k old new) = tt

    pub overwriting-good : (call : Call) (value word : ℕ) → overwriting call value ≡ Some word
        → Each (IsNamed P) (child_rows (child_of s word))
    overwriting-good (Get k) value word e = absurd (none-some word e)
    overwriting-good (Insert k v) value word e = absurd (none-some word e)
    overwriting-good (Scan a b) value word e = absurd (none-some word e)
    overwriting-good (Remove k) value word e = subst (λ w. Each (IsNamed P) (child_rows (child_of s w))) (same_Some 0 word e) tt
    overwriting-good (Replace k old new) value word e = go (value == old) e
      where
        go : (b : Bool) → (if b then Some (leaf_word k new) else None) ≡ Some word → Each (IsNamed P) (child_rows (child_of s word))
        go true f = subst (λ w. Each (IsNamed P) (child_rows (child_of s w))) (same_Some (leaf_word k new) word f) (leaf-good k new)
        go false f = absurd (none-some word f)
