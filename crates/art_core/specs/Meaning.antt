-- What the words of a tree mean.
use Rattle.std.specs.Prelude.{◌≡◌, ℕ, zero, suc, ◌-◌, ◌%◌, ◌<◌, ◌↔◌, ◌==◌, if◌then◌else◌, false, List, [], ◌∷◌, take, drop, slice_index}
use Rattle.std.specs.Prelude.{flat_map, Contains}
use Rattle.std.specs.Prelude.{Option, Some, None, option_map}
use Rattle.map_object.specs.MapObject.{Contents, IsRising}
use Rattle.art_rows.specs.declared.table.Shape.{Shape}
use Rattle.art_rows.specs.declared.table.Kind.{Kind}
use Rattle.art_rows.specs.declared.table.Kind.TheVariants.{Four, Sixteen, FortyEight, Full}
use Rattle.art_rows.specs.declared.table.Child.{Child}
use Rattle.art_rows.specs.declared.table.Child.TheVariants.{Empty, Row, Leaf}
use Rattle.art_rows.specs.Table.{row_words, kind_at, root_base, keys_at, more_keys_at, index_at, count_at, child_at}
use Rattle.art_rows.specs.Words.{is_locked, keys4_of, keys16_of, place_of, entries_of, child_of}
use Rattle.art_rows.specs.Steps.{numbers}

-- the slot of an index entry, if it names one
abbrev pub entry_slot : ℕ → ℕ → Option ℕ
entry_slot base e = if e == 0 then None else Some (child_at FortyEight base (e - 1))

-- the slot of a byte in a row, if the row has the byte
abbrev pub slot_of : List ℕ → ℕ → Kind → ℕ → Option ℕ
slot_of words base Four x = option_map (child_at Four base) (place_of x (keys4_of (slice_index words (keys_at base))))
slot_of words base Sixteen x = option_map (child_at Sixteen base)
    (place_of x (keys16_of (slice_index words (count_at Sixteen base)) (slice_index words (keys_at base))
    (slice_index words (more_keys_at base))))
slot_of words base FortyEight x = entry_slot base (slice_index (entries_of (slice_index words (index_at base x))) (x % 8))
slot_of words base Full x = Some (child_at Full base x)

-- the child in a slot
abbrev pub child_in : Shape → List ℕ → Option ℕ → Child
child_in s words None = Empty
child_in s words (Some slot) = child_of s (slice_index words slot)

-- what hangs on a byte of a row
abbrev pub child_on : Shape → List ℕ → ℕ → Kind → ℕ → Child
child_on s words base kind x = child_in s words (slot_of words base kind x)

-- a row that is reached from the root
pub data Reached (s : Shape) (words : List ℕ) : ℕ → Kind → Type 0 where
  root : Reached s words (root_base s) Full
  below : {base : ℕ} {kind : Kind} {base' : ℕ} {kind' : Kind} → Reached s words base kind → (x : ℕ) → x < 256
      → child_on s words base kind x ≡ Row base' kind' → Reached s words base' kind'

-- a leaf that hangs on a byte of a row reached from the root
pub record Hangs (s : Shape) (words : List ℕ) (key value : ℕ) : Type 0 where
  pub base : ℕ
  pub kind : Kind
  pub reached : Reached s words base kind
  pub byte : ℕ
  pub is_byte : byte < 256
  pub leaf : child_on s words base kind byte ≡ Leaf key value

-- the pairs that the words mean, by rising key
pub record Means (s : Shape) (words : List ℕ) (pairs : Contents) : Type 0 where
  pub rising : IsRising pairs
  pub all : (key value : ℕ) → Contains pairs (key, value) ↔ Hangs s words key value

-- the pairs that a walk down from a row finds: at most n rows, by rising bytes
abbrev pub pairs_in : (ℕ → Kind → Contents) → Child → Contents
pairs_in walk Empty = []
pairs_in walk (Row base kind) = walk base kind
pairs_in walk (Leaf key value) = (key, value) ∷ []

-- down at most n rows
abbrev pub pairs_below : ℕ → Shape → List ℕ → ℕ → Kind → Contents
pairs_below zero s words base kind = []
pairs_below (suc n) s words base kind = flat_map (λ x. pairs_in (pairs_below n s words) (child_on s words base kind x)) (numbers 0 256)

-- four rows are the most on a way down, where each has a greater level than the one above it
abbrev pub pairs_of : Shape → List ℕ → Contents
pairs_of s words = pairs_below 4 s words (root_base s) Full

-- no row is locked
abbrev pub AllUnlocked : Shape → List ℕ → Type 0
AllUnlocked s words = (base : ℕ) (kind : Kind) → kind_at s base ≡ Some kind → is_locked (slice_index words base) ≡ false

-- the words of a row
abbrev pub row_in : List ℕ → ℕ → Kind → List ℕ
row_in words base kind = take (row_words kind) (drop base words)
