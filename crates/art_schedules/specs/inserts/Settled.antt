-- What an insert may leave of a table at rest.
use Rattle.std.specs.Prelude.{◌≡◌, ◌⊎◌, ℕ, ◌+◌, ◌<◌, ◌≤◌, ◌^◌, false, List, length, slice_index, All}
use Rattle.art_rows.specs.declared.table.Shape.{Shape}
use Rattle.art_rows.specs.declared.table.Kind.{Kind}
use Rattle.art_rows.specs.Table.{row_words, table_words, claims_of}
use Rattle.art_rows.specs.Words.{is_locked, is_obsolete}
use Rattle.art_core.specs.Meaning.{Reached}
use Rattle.art_schedules.specs.trees.Trees.{IsClaimed}

-- a word of a row that is reached, other than its version
abbrev pub IsInside : Shape → List ℕ → ℕ → Type 0
IsInside s words w = (base : ℕ) × (kind : Kind) × (j : ℕ) × Reached s words base kind × (1 ≤ j) × (j < row_words kind) × (w ≡ base + j)

-- a row that was claimed since
abbrev pub IsNewRow : Shape → List ℕ → List ℕ → ℕ → Kind → Type 0
IsNewRow s words later base kind = (x : IsClaimed s later base kind) × (slice_index words (claims_of kind) ≤ x.number)

-- a word of such a row, other than its version
abbrev pub IsNew : Shape → List ℕ → List ℕ → ℕ → Type 0
IsNew s words later w = (base : ℕ) × (kind : Kind) × (j : ℕ) × IsNewRow s words later base kind × (1 ≤ j)
    × (j < row_words kind) × (w ≡ base + j)

-- the version of a row that is reached, which is not locked
abbrev pub IsReleased : Shape → List ℕ → List ℕ → ℕ → Type 0
IsReleased s words later w = (kind : Kind) × Reached s words w kind × (is_locked (slice_index later w) ≡ false)

-- At most one claim of each kind was made since. Each word that is not the clock or a count of
-- claims is one of three: it is as it was; or it is the version of a row that is reached and not
-- locked; or it is inside of a row that is reached or was claimed since.
pub record IsAfterInsert (s : Shape) (words later : List ℕ) : Type 0 where
  pub long : length later ≡ table_words s
  pub small : All (λ w. w < 2 ^ 64) later
  pub low : (kind : Kind) → slice_index words (claims_of kind) ≤ slice_index later (claims_of kind)
  pub high : (kind : Kind) → slice_index later (claims_of kind) ≤ slice_index words (claims_of kind) + 1
  pub word : (w : ℕ) → 5 ≤ w → (slice_index later w ≡ slice_index words w)
      ⊎ (IsReleased s words later w ⊎ (IsInside s words w ⊎ IsNew s words later w))

-- each row that is reached was reached before and is not obsolete, or was claimed since
abbrev pub HasOldOrNewRows : Shape → List ℕ → List ℕ → Type 0
HasOldOrNewRows s words later = (base : ℕ) (kind : Kind) → Reached s later base kind
    → (Reached s words base kind × (is_obsolete (slice_index later base) ≡ false)) ⊎ IsNewRow s words later base kind
