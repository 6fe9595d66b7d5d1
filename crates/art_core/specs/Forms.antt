-- The form of rows, and what makes the rows of a table a tree.
use Rattle.std.specs.Prelude.{◌≡◌, ℕ, ◌+◌, ◌<◌, ◌≤◌, List, [], ◌∷◌, ◌++◌, length, take, slice_index, All, Some}
use Rattle.std.specs.List.Sorted.{IsStrictlyIncreasing}
use Rattle.art_rows.specs.declared.table.Shape.{Shape}
use Rattle.art_rows.specs.declared.table.Kind.{Kind}
use Rattle.art_rows.specs.declared.table.Kind.TheVariants.{Four, Sixteen, FortyEight, Full}
use Rattle.art_rows.specs.declared.table.Child.TheVariants.{Row, Leaf}
use Rattle.art_rows.specs.Table.{root_base, info_at, keys_at, more_keys_at, count_at, child_at}
use Rattle.art_rows.specs.Words.{key_bytes, info_word, info_of, keys4_word, keys16_word, more_keys16_word}
use Rattle.art_core.specs.Meaning.{Reached, child_on, slot_of}

-- The words of a row of its kind are in form.
abbrev pub HasForm : List ℕ → ℕ → Kind → Type 0
HasForm words base Four =
    (keys : List ℕ) × (slice_index words (keys_at base) ≡ keys4_word keys) × (length keys ≤ 4) × IsStrictlyIncreasing keys
    × All (λ x. x < 256) keys
HasForm words base Sixteen =
    (keys : List ℕ) × (slice_index words (keys_at base) ≡ keys16_word keys)
    × (slice_index words (more_keys_at base) ≡ more_keys16_word keys)
    × (slice_index words (count_at Sixteen base) ≡ length keys) × (length keys ≤ 16) × IsStrictlyIncreasing keys × All (λ x. x < 256) keys
HasForm words base FortyEight = (slice_index words (count_at FortyEight base) ≤ 48)
    × ((x y e : ℕ) → x < 256 → y < 256 → slot_of words base FortyEight x ≡ Some e → slot_of words base FortyEight y ≡ Some e → x ≡ y)
    × ((i : ℕ) → i < slice_index words (count_at FortyEight base) → (x : ℕ) × (x < 256)
    × (slot_of words base FortyEight x ≡ Some (child_at FortyEight base i)))
    × ((x i : ℕ) → x < 256 → slot_of words base FortyEight x ≡ Some (child_at FortyEight base i)
    → i < slice_index words (count_at FortyEight base))
HasForm words base Full = Unit {0}

-- the level and the path that a row's information says
abbrev pub level_in : List ℕ → ℕ → Kind → ℕ
level_in words base kind = (info_of kind (slice_index words (info_at base))).level

abbrev pub path_in : List ℕ → ℕ → Kind → List ℕ
path_in words base kind = (info_of kind (slice_index words (info_at base))).path

-- The rows that are reached from the root are a tree: each is in form; what hangs at a byte of a row begins with the row's path and that
-- byte; and no two bytes
-- lead to one row.
pub record IsTree (s : Shape) (words : List ℕ) : Type 0 where
  pub root : slice_index words (info_at (root_base s)) ≡ 3
  pub form : (base : ℕ) (kind : Kind) → Reached s words base kind → HasForm words base kind
  pub info : (base : ℕ) (kind : Kind) → Reached s words base kind → (length (path_in words base kind) ≡ level_in words base kind)
      × (slice_index words (info_at base) ≡ info_word kind (level_in words base kind) (path_in words base kind))
  pub row : (base m x : ℕ) (kind k : Kind) → Reached s words base kind → x < 256 → child_on s words base kind x ≡ Row m k
      → (level_in words base kind < level_in words m k)
      × (take (level_in words base kind + 1) (path_in words m k) ≡ path_in words base kind ++ x ∷ [])
  pub leaf : (base x key value : ℕ) (kind : Kind) → Reached s words base kind → x < 256 → child_on s words base kind x ≡ Leaf key value
      → take (level_in words base kind + 1) (key_bytes key) ≡ path_in words base kind ++ x ∷ []
  pub once : (a b x y m : ℕ) (ka kb k : Kind) → Reached s words a ka → Reached s words b kb → x < 256 → y < 256
      → child_on s words a ka x ≡ Row m k → child_on s words b kb y ≡ Row m k → (a ≡ b) × (x ≡ y)
