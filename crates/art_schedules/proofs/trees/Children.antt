-- Children as they are written, and a row with two of them.
use Rattle.art_schedules.proofs.Common.{◌≡◌, ℕ, ◌/◌, ◌%◌, ◌<◌, ◌^◌, Bool, refl, ap, ap₂, ◌∙◌, arith, eq-eqb, Shape, Kind}
use Rattle.art_schedules.proofs.Common.{Child, Empty, Leaf, kind_at, child_of, row_child, row_word, leaf_word}
use Rattle.std.proofs.Common.{ne_eqb, ◌==◌, if◌then◌else◌, Some}
use Rattle.art_rows.specs.declared.table.Child.TheVariants.{Row}
use Rattle.art_schedules.specs.trees.Children.{ChildrenAreRead}

-- what a word says, by the tests of its form
abbrev said : Shape → ℕ → Bool → Bool → Child
said s w a b = if a then row_child (w / 4) (kind_at s (w / 4)) else if b then Leaf (w / 2 ^ 32) ((w % 2 ^ 32) / 4) else Empty

row_read : (s : Shape) (base : ℕ) (kind : Kind) → kind_at s base ≡ Some kind → child_of s (row_word base) ≡ Row base kind
row_read s base kind h =
    ap (λ a. said s (row_word base) a (row_word base % 4 == 2)) (eq-eqb (row_word base % 4) 1 form)
    ∙ (ap (λ b. row_child b (kind_at s b)) back ∙ ap (λ o. row_child base o) h)
  where
    form : row_word base % 4 ≡ 1
    form = omega arith

    back : row_word base / 4 ≡ base
    back = omega arith

leaf_read : (s : Shape) (key value : ℕ) → key < 2 ^ 32 → value < 2 ^ 30 → child_of s (leaf_word key value) ≡ Leaf key value
leaf_read s key value low high =
    ap₂ (λ a b. said s (leaf_word key value) a b) (ne_eqb (leaf_word key value % 4) 1 (λ e. omega (arith, e, form)))
    (eq-eqb (leaf_word key value % 4) 2 form)
    ∙ ap₂ (λ k v. Leaf k v) key_back value_back
  where
    form : leaf_word key value % 4 ≡ 2
    form = omega arith

    key_back : leaf_word key value / 2 ^ 32 ≡ key
    key_back = omega (arith, high)

    value_back : (leaf_word key value % 2 ^ 32) / 4 ≡ value
    value_back = omega (arith, high)

pub children-are-read : ChildrenAreRead
children-are-read s Empty h = refl
children-are-read s (Row base kind) h = row_read s base kind h
children-are-read s (Leaf key value) h = leaf_read s key value h.0 h.1
