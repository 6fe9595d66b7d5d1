-- The way of a key from row to row, and where it ends at a leaf.
use Rattle.art_schedules.proofs.Common.{◌≡◌, ℕ, ◌+◌, ◌/◌, ◌%◌, ◌^◌, ◌<◌, ◌≤◌, Bool, true, false, List, [], ◌∷◌, length, take}
use Rattle.art_schedules.proofs.Common.{refl, sym, ap, subst, ◌∙◌, arith, ⊎_elim, cases_lt, none-some, Shape, Kind}
use Rattle.art_schedules.proofs.Common.{Empty, Leaf, kind_at, key_bytes, first_difference, child_of, row_child, child_in, slot_of, LeavesAreSmall}
use Rattle.art_schedules.proofs.Common.{KeysPart}
use Rattle.std.proofs.Common.{All, Option, option_map, ◌==◌, slice_index, Some, None, if◌then◌else◌}
use Rattle.std.proofs.lemmas.Bool.{eqb-true}
use Rattle.std.proofs.lemmas.List.{get_or_past}
use Rattle.art_schedules.proofs.trees.Ways.{empty-leaf, row-leaf, same_key, same_value}

-- a list that differs nowhere from a longer one is its beginning
same_beginning : (xs ys : List ℕ) → length xs ≤ length ys → first_difference xs ys ≡ None → take (length xs) ys ≡ xs
same_beginning [] ys long h = refl
same_beginning (x ∷ xs) [] long h = absurd (omega arith)
same_beginning (x ∷ xs) (y ∷ ys) long h = go (x == y) refl (λ e. same_beginning xs ys (omega arith) e) h
  where
    rest : (o : Option ℕ) → option_map (λ d. d + 1) o ≡ None → o ≡ None
    rest None e = refl
    rest (Some d) e = absurd (none-some (d + 1) (sym e))

    go : (b : Bool) → (x == y) ≡ b → (first_difference xs ys ≡ None → take (length xs) ys ≡ xs)
        → (if b then option_map (λ d. d + 1) (first_difference xs ys) else Some 0) ≡ None → y ∷ take (length xs) ys ≡ x ∷ xs
    go true same later e = ap (λ z. z ∷ take (length xs) ys) (sym (eqb-true x y same))
        ∙ ap (λ zs. x ∷ zs) (later (rest (first_difference xs ys) e))
    go false same later e = absurd (none-some 0 (sym e))

-- a word of the table
pub small_at : (words : List ℕ) (i : ℕ) → All (λ w. w < 2 ^ 64) words → slice_index words i < 2 ^ 64
small_at words i small = ⊎_elim
    (λ within. small i 0 within) (λ past. subst (λ w. w < 2 ^ 64) (sym (get_or_past words i 0 past)) (omega arith))
    (cases_lt i (length words))

leaf_small : (s : Shape) (w key value : ℕ) → w < 2 ^ 64 → child_of s w ≡ Leaf key value → (key < 2 ^ 32) × (value < 2 ^ 30)
leaf_small s w key value small h = go (w % 4 == 1) (w % 4 == 2) h
  where
    no_leaf : (o : Option Kind) → row_child (w / 4) o ≡ Leaf key value → ⊥
    no_leaf None e = empty-leaf key value e
    no_leaf (Some kind) e = row-leaf (w / 4) kind key value e

    go : (a b : Bool)
        → (if a then row_child (w / 4) (kind_at s (w / 4)) else if b then Leaf (w / 2 ^ 32) ((w % 2 ^ 32) / 4) else Empty) ≡ Leaf key value
        → (key < 2 ^ 32) × (value < 2 ^ 30)
    go true b e = absurd (no_leaf (kind_at s (w / 4)) e)
    go false true e = (
      omega (arith, small, same_key (w / 2 ^ 32) ((w % 2 ^ 32) / 4) key value e),
      omega (arith, same_value (w / 2 ^ 32) ((w % 2 ^ 32) / 4) key value e),
    )
    go false false e = absurd (empty-leaf key value e)

pub leaves-are-small : LeavesAreSmall
leaves-are-small s words base kind x key value small on = go (slot_of words base kind x) on
  where
    go : (o : Option ℕ) → child_in s words o ≡ Leaf key value → (key < 2 ^ 32) × (value < 2 ^ 30)
    go None e = absurd (empty-leaf key value e)
    go (Some slot) e = leaf_small s (slice_index words slot) key value (small_at words slot small) e

-- keys of the same bytes are the same
same_bytes : (a b : ℕ) → a < 2 ^ 32 → b < 2 ^ 32 → key_bytes a ≡ key_bytes b → a ≡ b
same_bytes a b low high h =
    let first : (a / 2 ^ 24) % 256 ≡ (b / 2 ^ 24) % 256 = ap (λ zs. slice_index zs 0) h in
    let second : (a / 2 ^ 16) % 256 ≡ (b / 2 ^ 16) % 256 = ap (λ zs. slice_index zs 1) h in
    let third : (a / 2 ^ 8) % 256 ≡ (b / 2 ^ 8) % 256 = ap (λ zs. slice_index zs 2) h in
    let last : a % 256 ≡ b % 256 = ap (λ zs. slice_index zs 3) h in
    omega (arith, low, high, first, second, third, last)

pub keys-part : KeysPart
keys-part a b low high other = go (first_difference (key_bytes a) (key_bytes b)) refl
  where
    go : (o : Option ℕ) → first_difference (key_bytes a) (key_bytes b) ≡ o → (d : ℕ) × (o ≡ Some d)
    go None e = absurd (other (same_bytes a b low high (sym (same_beginning (key_bytes a) (key_bytes b) (omega arith) e))))
    go (Some d) e = (d, refl)
