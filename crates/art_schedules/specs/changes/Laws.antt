-- Laws of changes of a calm tree.
use Rattle.std.specs.Prelude.{◌≡◌, ◌≢◌, ℕ, ◌+◌, ◌<◌, ◌≤◌, ◌^◌, false, List, length, slice_index, Option, Some, None, All}
use Rattle.map_object.specs.MapObject.{Contents, value_at}
use Rattle.art_rows.specs.declared.table.Shape.{Shape}
use Rattle.art_rows.specs.declared.table.Kind.{Kind}
use Rattle.art_rows.specs.declared.table.Child.{Child}
use Rattle.art_rows.specs.Table.{row_words, claims_of, kind_at}
use Rattle.art_rows.specs.Words.{key_bytes, first_difference, child_of, child_word, is_locked, is_obsolete}
use Rattle.art_core.specs.Meaning.{Reached, Means, slot_of, child_on}
use Rattle.art_core.specs.Forms.{IsTree, level_in, path_in}
use Rattle.art_schedules.specs.trees.Trees.{IsAtRest, LeadsTo}
use Rattle.art_schedules.specs.trees.Children.{IsWritable}
use Rattle.art_schedules.specs.changes.Rows.{OneRow, SameOutside, HasNewChild}
use Rattle.art_schedules.specs.changes.Effects.{Effect, base_of_effect, kind_of_effect, pairs_after, IsGone, HasEffect, ComesIn}
use Rattle.art_schedules.specs.changes.Follows.{HasFewClaims, Follows, KeepsTree}
use Rattle.art_schedules.specs.changes.Sayings.{IsSaidBy}
use Rattle.art_schedules.specs.changes.Courses.{IsGoneBy, ComesInBy}

-- A change of one row that has an effect leaves a tree at rest, which means the map after the effect.
abbrev pub EffectsFollow : Type 0
EffectsFollow = (s : Shape) (n claims : ℕ) (calm later : List ℕ) (m : Contents) (effect : Effect) → IsAtRest s n calm → Means s calm m
    → OneRow s calm later (base_of_effect effect) (kind_of_effect effect) → HasFewClaims claims later → HasEffect s calm later effect
    → Follows s claims calm later (pairs_after effect m) (IsGone effect) (ComesIn effect)

-- If the rows of the tree say the same, the tree is the same, whatever the other words are.
abbrev pub KeptTreesFollow : Type 0
KeptTreesFollow = (s : Shape) (n claims : ℕ) (calm later : List ℕ) (m : Contents) → IsAtRest s n calm → Means s calm m
    → KeepsTree s calm later
    → HasFewClaims claims later → Follows s claims calm later m (IsGoneBy None) (ComesInBy None)

-- If only the clock and counts of claims have changed, the rows of the tree say the same.
abbrev pub LowWordsKeep : Type 0
LowWordsKeep = (s : Shape) (n : ℕ) (calm later : List ℕ) → IsAtRest s n calm → length later ≡ length calm → All (λ w. w < 2 ^ 64) later
    → ((kind : Kind) → slice_index calm (claims_of kind) ≤ slice_index later (claims_of kind))
    → ((word : ℕ) → 5 ≤ word → slice_index later word ≡ slice_index calm word) → KeepsTree s calm later

-- Words that are the same except for the words of a row and those before all rows differ in one
-- row.
abbrev pub RowsAreByWords : Type 0
RowsAreByWords = (s : Shape) (calm later : List ℕ) (base : ℕ) (kind : Kind) → kind_at s base ≡ Some kind → length later ≡ length calm
    → All (λ w. w < 2 ^ 64) later → ((k : Kind) → slice_index calm (claims_of k) ≤ slice_index later (claims_of k))
    → SameOutside calm later base kind
    → is_locked (slice_index later base) ≡ false → is_obsolete (slice_index later base) ≡ false → OneRow s calm later base kind

-- If only the slot of a byte has changed of a row, the byte has the child that the slot's word
-- says.
abbrev pub SlotsAreChildren : Type 0
SlotsAreChildren = (s : Shape) (n : ℕ) (calm later : List ℕ) (base : ℕ) (kind : Kind) (x slot : ℕ) → IsAtRest s n calm
    → Reached s calm base kind
    → OneRow s calm later base kind → x < 256 → slot_of calm base kind x ≡ Some slot
    → ((j : ℕ) → 1 ≤ j → j < row_words kind → base + j ≢ slot → slice_index later (base + j) ≡ slice_index calm (base + j))
    → HasNewChild s calm later base kind x (child_of s (slice_index later slot))

-- If only the slot of a byte has changed of a row, a child whose word was written there is the
-- byte's new child.
abbrev pub SlotsAreWritten : Type 0
SlotsAreWritten = (s : Shape) (n : ℕ) (calm later : List ℕ) (base : ℕ) (kind : Kind) (x slot : ℕ) (child : Child) → IsAtRest s n calm
    → Reached s calm base kind → OneRow s calm later base kind → x < 256 → slot_of calm base kind x ≡ Some slot
    → ((j : ℕ) → 1 ≤ j → j < row_words kind → base + j ≢ slot → slice_index later (base + j) ≡ slice_index calm (base + j))
    → IsWritable s child → slice_index later slot ≡ child_word child → HasNewChild s calm later base kind x child

-- What the child says on the key's byte of a row that the key's way leads to is what the map has at the key.
abbrev pub WaysSayValues : Type 0
WaysSayValues = (s : Shape) (n : ℕ) (words : List ℕ) (m : Contents) (key base : ℕ) (kind : Kind) (x : ℕ) (o : Option ℕ) → IsAtRest s n words
    → Means s words m → LeadsTo s words key base kind x → IsSaidBy words key o (child_on s words base kind x) → value_at m key ≡ o

-- The key's way leads to each row of the tree whose path differs nowhere from the key.
abbrev pub WaysArePaths : Type 0
WaysArePaths = (s : Shape) (words : List ℕ) (key base : ℕ) (kind : Kind) → IsTree s words → Reached s words base kind
    → first_difference (path_in words base kind) (key_bytes key) ≡ None
    → LeadsTo s words key base kind (slice_index (key_bytes key) (level_in words base kind))
